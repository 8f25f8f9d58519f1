-- What a sheet on a pile of article books may answer after any list of calls, the newest first.
use Rattle.std.specs.Prelude.{◌≡◌, ℕ, min, Bool, List, [], ◌∷◌, map, reverse, Some, None, Ok, Err, Option, Result}
use Rattle.rebar.specs.declared.beam.Beam.{Beam}
use Rattle.rebar.specs.declared.cage.Cage.{Cage}
use Rattle.books.specs.Answers.{Passes}
use Rattle.stock.specs.declared.kind.Kind.{Kind}
use Rattle.search.specs.declared.decision.Decision.{Decision}
use Rattle.search.specs.declared.decision.Decision.TheVariants as decision
use Rattle.search.specs.Lightest.{FromStock, Lightest}
use Rattle.sheet.specs.declared.call.Answer.{Answer}
use Rattle.sheet.specs.declared.call.Answer.TheVariants as answer
use Rattle.sheet.specs.declared.call.Call.{Call}
use Rattle.sheet.specs.declared.call.Call.TheVariants.{Design, Read, Count}
use Rattle.sheet.specs.declared.call.Exchange.{Exchange}
use Rattle.sheet.specs.declared.reading.Shown.{Shown}
use Rattle.sheet.specs.declared.reading.Shown.TheVariants.{Empty, Open, Chosen, Impossible}
use Rattle.sheet.specs.declared.refusal.Refusal.{Refusal}
use Rattle.sheet.specs.Size.{greatest_count}
use Rattle.sheet.specs.History.{card_after, IsBeamAfter, in_after, Stands, designs_after, why_after}

-- a decision stands, and is right for the beam there and the marks that are in stock now
abbrev pub IsDecidedAs : (Beam → Cage → ℕ) → List Call → ℕ → Decision → Type 0
IsDecidedAs pile calls p d =
    ((b : Beam) × (IsBeamAfter calls p b × Lightest pile (in_after calls) b d))
    × Stands pile calls p d

-- what a place shows is right: it is empty where no card lies there; open where a card lies there
-- and no decision stands; a chosen cage stands as the decision, and is the lightest from stock that
-- the pile passes for the beam there, with its own steel; and where it is impossible that stands,
-- and none passes
abbrev pub IsRight : (Beam → Cage → ℕ) → List Call → ℕ → Shown → Type 0
IsRight pile calls p Empty = card_after calls p ≡ None
IsRight pile calls p Open =
    ((b : Beam) × IsBeamAfter calls p b) × ((d : Decision) → Stands pile calls p d → ⊥)
IsRight pile calls p (Chosen x) = IsDecidedAs pile calls p (decision.Chosen x)
IsRight pile calls p (Impossible n) = IsDecidedAs pile calls p (decision.Impossible n)

-- no cage from stock passes
abbrev pub NonePasses : (Beam → Cage → ℕ) → (Kind → ℕ → Bool) → Beam → Type 0
NonePasses pile got b = (c : Cage) → FromStock got c → Passes pile b c → ⊥

-- impossible is shown exactly when no cage from stock passes for the beam, and chosen otherwise
abbrev pub IsDecided : (Beam → Cage → ℕ) → (Kind → ℕ → Bool) → Beam → Shown → Type 0
IsDecided pile got b Empty = ⊥
IsDecided pile got b Open = ⊥
IsDecided pile got b (Chosen x) = NonePasses pile got b → ⊥
IsDecided pile got b (Impossible n) = NonePasses pile got b

-- where the newest call is a design order of the place that is not refused, the place is decided
abbrev pub IsDecidedByDesign : (Beam → Cage → ℕ) → List Call → ℕ → Shown → Type 0
IsDecidedByDesign pile (Design q ∷ calls) p shown =
    q ≡ p → why_after calls (Design q) ≡ None
    → (b : Beam)
    × (IsBeamAfter (Design q ∷ calls) p b × IsDecided pile (in_after (Design q ∷ calls)) b shown)
IsDecidedByDesign pile calls p shown = Unit {0}

-- the law: what a place shows is right, and right after a design order it is decided
pub record Lawful (pile : Beam → Cage → ℕ) (calls : List Call) (p : ℕ)
    (shown : Shown) : Type 0 where
  pub right : IsRight pile calls p shown
  pub decided : IsDecidedByDesign pile calls p shown

-- what a call that is not refused answers after these: a reading is of its place, and lawful; a
-- design order is answered with what its place then shows; the count is the number of designs that
-- were not refused, up to the greatest
abbrev pub Tells : (Beam → Cage → ℕ) → List Call → Call → Answer → Type 0
Tells pile calls (Read p) (answer.Shows reading) =
    (reading.place ≡ p) × Lawful pile calls p reading.shown
Tells pile calls (Read p) _ = ⊥
Tells pile calls (Design p) (answer.Shows reading) =
    (reading.place ≡ p) × Lawful pile (Design p ∷ calls) p reading.shown
Tells pile calls (Design p) _ = ⊥
Tells pile calls Count (answer.Designs n) = n ≡ min (designs_after calls) greatest_count
Tells pile calls Count _ = ⊥
Tells pile calls call answer.Done = Unit {0}
Tells pile calls call _ = ⊥

-- what a call after these is answered
abbrev pub Answers : (Beam → Cage → ℕ) → List Call → Call → Result Answer Refusal → Type 0
Answers pile calls call (Err e) = why_after calls call ≡ Some e
Answers pile calls call (Ok a) = (why_after calls call ≡ None) × Tells pile calls call a

-- the call of an exchange
abbrev pub call_of : Exchange → Call
call_of x = x.call

-- the calls of some exchanges that were made in this order, the newest first
abbrev pub calls_of : List Exchange → List Call
calls_of exchanges = reverse (map call_of exchanges)

-- there is an answer, and it is so
abbrev pub HasAnswer : (Result Answer Refusal → Type 0) → Option (Result Answer Refusal) → Type 0
HasAnswer P None = ⊥
HasAnswer P (Some r) = P r

-- every call of some exchanges, the newest first, is answered as the calls before it determine
abbrev pub AllAnswered : (Beam → Cage → ℕ) → List Exchange → Type 0
AllAnswered pile [] = Unit {0}
AllAnswered pile (x ∷ earlier) =
    HasAnswer (Answers pile (map call_of earlier) x.call) x.answer × AllAnswered pile earlier
