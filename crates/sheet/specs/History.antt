-- What a list of calls, the newest first, has made of places, stock and count: in words of the
-- calls alone.
use Rattle.std.specs.Prelude.{◌≡◌, ℕ, suc, Bool, false, cond, not, ◌&&◌, List, [], ◌∷◌, Some, None, Ok, Option, is_some, is_none, ◌==◌, true, zero}
use Rattle.std.specs.Bool.{beq}
use Rattle.std.specs.List.{list_any}
use Rattle.rebar.specs.declared.beam.Beam.{Beam}
use Rattle.rebar.specs.declared.cage.Cage.{Cage}
use Rattle.rebar.specs.Ranges.{count, main_marks}
use Rattle.card.specs.Card.{CardAs}
use Rattle.stock.specs.declared.kind.Kind.{Kind}
use Rattle.stock.specs.declared.kind.Kind.TheVariants.{Main, Tie}
use Rattle.stock.specs.Kinds.{kind_number, known}
use Rattle.search.specs.declared.decision.Decision.{Decision}
use Rattle.search.specs.Lightest.{Lightest}
use Rattle.sheet.specs.declared.call.Call.{Call}
use Rattle.sheet.specs.declared.call.Call.TheVariants.{Enter, Correct, Strike, Stock, Design}
use Rattle.sheet.specs.declared.refusal.Refusal.{Refusal}
use Rattle.sheet.specs.Calls.{for_kind, why_refused}
use Rattle.sheet.specs.Places.{doubtful}

-- whether a mark is in: the last stock order for that kind and mark set it in. An order for a mark
-- that is not known in its kind is refused
abbrev pub in_after : List Call → Kind → ℕ → Bool
in_after [] k m = false
in_after (Stock kind mark is-in ∷ calls) k m =
    cond (kind == kind_number k && (mark == m && known k m)) is-in (in_after calls k m)
in_after (call ∷ calls) k m = in_after calls k m

-- n numbers from k on
abbrev pub from : ℕ → ℕ → List ℕ
from k zero = []
from k (suc n) = k ∷ from (suc k) n

-- the marks that bars may have
abbrev pub marks : List ℕ
marks = from main_marks.least (count main_marks)

-- whether some main mark and some tie mark is in
abbrev pub stocked_after : List Call → Bool
stocked_after calls = list_any (in_after calls Main) marks && list_any (in_after calls Tie) marks

-- the card at a place after a call that is not refused, by the card there before
abbrev pub card_by : Call → ℕ → Option (List ℕ) → Option (List ℕ)
card_by (Enter p card) q before = cond (p == q) (Some card.now) before
card_by (Correct p card) q before = cond (p == q) (Some card.now) before
card_by (Strike p) q before = cond (p == q) None before
card_by call q before = before

-- the card at a place: the last one that enter or correct put there, until a strike; refused calls
-- count for nothing
abbrev pub card_after : List Call → ℕ → Option (List ℕ)
card_after [] q = None
card_after (call ∷ calls) q =
    cond (is_none (why_refused (λ p. is_some (card_after calls p)) (stocked_after calls) call))
    (card_by call q (card_after calls q))
    (card_after calls q)

-- why a call after these is refused, none where it is not
abbrev pub why_after : List Call → Call → Option Refusal
why_after calls = why_refused (λ p. is_some (card_after calls p)) (stocked_after calls)

-- the beam at a place is the one that the card there describes
abbrev pub IsBeamAfter : List Call → ℕ → Beam → Type 0
IsBeamAfter calls p b = (card : List ℕ) × ((card_after calls p ≡ Some card) × CardAs card (Ok b))

-- whether a mark is in, in the kind with this number
abbrev pub in_by_number : List Call → ℕ → ℕ → Bool
in_by_number calls number mark = for_kind number (λ kind. in_after calls kind mark)

-- whether a stock order, of the kind with this number, gives cause to decide again
abbrev pub doubts : ℕ → ℕ → Bool → Decision → Bool
doubts number mark is-in d = for_kind number (λ kind. doubtful kind mark is-in d)

-- one fact where a test passes, another where it does not
abbrev pub If : Bool → Type 0 → Type 0 → Type 0
If true A B = A
If false A B = B

-- a decision of a place stands after a call that is not refused, where `Before` says whether it
-- stood: a design order of the place makes the decision that is right for the beam there and the
-- marks in stock; a card that is put there, a strike, and a stock order that alters a mark and
-- gives cause end it
abbrev pub StandsBy : (Beam → Cage → ℕ) → List Call → Call → ℕ → Decision → Type 0 → Type 0
StandsBy pile calls (Enter p card) q d Before = If (p == q) ⊥ Before
StandsBy pile calls (Correct p card) q d Before = If (p == q) ⊥ Before
StandsBy pile calls (Strike p) q d Before = If (p == q) ⊥ Before
StandsBy pile calls (Stock kind mark is-in) q d Before =
    Before
    × ((not (beq (in_by_number calls kind mark) is-in) && doubts kind mark is-in d) ≡ false)
StandsBy pile calls (Design p) q d Before =
    If (p == q) ((b : Beam) × (IsBeamAfter calls q b × Lightest pile (in_after calls) b d)) Before
StandsBy pile calls call q d Before = Before

-- the decision of a place that stands; refused calls count for nothing
abbrev pub Stands : (Beam → Cage → ℕ) → List Call → ℕ → Decision → Type 0
Stands pile [] q d = ⊥
Stands pile (call ∷ calls) q d =
    If (is_none (why_after calls call))
    (StandsBy pile calls call q d (Stands pile calls q d))
    (Stands pile calls q d)

-- how many design orders there are with this one more
abbrev pub designs_by : Call → ℕ → ℕ
designs_by (Design p) n = suc n
designs_by call n = n

-- how many design orders were not refused
abbrev pub designs_after : List Call → ℕ
designs_after [] = 0
designs_after (call ∷ calls) =
    cond (is_none (why_after calls call)) (designs_by call (designs_after calls))
    (designs_after calls)
