-- When a call is refused, and what it does to the table of a sheet when it is not.
use Rattle.std.specs.Prelude.{◌≡◌, ℕ, ◌<◌, ◌≤◌, Bool, cond, ◌&&◌, ◌||◌, List, replicate, Some, None, Ok, Err, Option, Result, is_some, nat_lt, ◌==◌}
use Rattle.rebar.specs.declared.beam.Beam.{Beam}
use Rattle.rebar.specs.declared.cage.Cage.{Cage}
use Rattle.card.specs.declared.fault.Fault.{Fault}
use Rattle.card.specs.Card.{card_fault, CardAs}
use Rattle.stock.specs.declared.kind.Kind.{Kind}
use Rattle.stock.specs.declared.kind.Kind.TheVariants.{Main, Tie}
use Rattle.search.specs.declared.decision.Decision.{Decision}
use Rattle.stock.specs.Kinds.{kind_number, known}
use Rattle.stock.specs.Stock.{IsEmpty, has, offers_cages}
use Rattle.search.specs.Lightest.{Lightest}
use Rattle.sheet.specs.declared.call.Answer.{Answer}
use Rattle.sheet.specs.declared.call.Answer.TheVariants as answer
use Rattle.sheet.specs.declared.call.Call.{Call}
use Rattle.sheet.specs.declared.call.Call.TheVariants.{Enter, Correct, Strike, Stock, Design, Read, Count}
use Rattle.sheet.specs.declared.reading.Reading.{Reading}
use Rattle.sheet.specs.declared.refusal.Refusal.{Refusal}
use Rattle.sheet.specs.declared.refusal.Refusal.TheVariants.{NoSuchPlace, PlaceTaken, PlaceEmpty, Card, NoSuchMark, NothingInStock}
use Rattle.sheet.specs.declared.table.Table.{Table}
use Rattle.sheet.specs.Size.{last_place, place_count}
use Rattle.sheet.specs.Places.{beam_of, opened, shown_of}
use Rattle.sheet.specs.Table.{place_at, with_place, restocked, settled}

-- a new sheet: every place empty, no mark in stock, nothing counted
abbrev pub New : Table → Type 0
New t =
    (t.places ≡ replicate place_count None)
    × IsEmpty t.stock
    × (t.count ≡ 0)

-- a card's fault as a refusal
abbrev pub refusal_of : Option Fault → Option Refusal
refusal_of None = None
refusal_of (Some fault) = Some (Card fault)

-- no such place, or what is said where there is one
abbrev pub at_place : ℕ → Option Refusal → Option Refusal
at_place p else = cond (nat_lt last_place p) (Some NoSuchPlace) else

-- whether there is a kind with this number, and the test passes for it
abbrev pub for_kind : ℕ → (Kind → Bool) → Bool
for_kind number test =
    (number == kind_number Main && test Main) || (number == kind_number Tie && test Tie)

-- whether the yard knows a mark in the kind with this number
abbrev pub is_known : ℕ → ℕ → Bool
is_known number mark = for_kind number (λ kind. known kind mark)

-- why a call is refused, none where it is not: `holds` says which places hold a beam, and `stocked`
-- whether some main mark and some tie mark is in
abbrev pub why_refused : (ℕ → Bool) → Bool → Call → Option Refusal
why_refused holds stocked (Enter p card) =
    at_place p (cond (holds p) (Some PlaceTaken) (refusal_of (card_fault card.now)))
why_refused holds stocked (Correct p card) =
    at_place p (cond (holds p) (refusal_of (card_fault card.now)) (Some PlaceEmpty))
why_refused holds stocked (Strike p) = at_place p (cond (holds p) None (Some PlaceEmpty))
why_refused holds stocked (Stock kind mark is-in) = cond (is_known kind mark) None (Some NoSuchMark)
why_refused holds stocked (Design p) =
    at_place p (cond (holds p) (cond stocked None (Some NothingInStock)) (Some PlaceEmpty))
why_refused holds stocked (Read p) = at_place p None
why_refused holds stocked Count = None

-- the same, of the table of a sheet
abbrev pub why : Table → Call → Option Refusal
why t = why_refused (λ p. is_some (place_at t p)) (offers_cages t.stock)

-- the table with the beam of a card at a place, open
abbrev pub PutsCard : ℕ → List ℕ → Table → Table → Type 0
PutsCard p card t t' = (b : Beam) × (CardAs card (Ok b) × (t' ≡ with_place t p (Some (opened b))))

-- the same, or the card's fault, and nothing has changed
abbrev pub PutsCardOrRefuses : ℕ → List ℕ → Table → Result Unit Refusal → Table → Type 0
PutsCardOrRefuses p card t (Ok _) t' = (card_fault card ≡ None) × PutsCard p card t t'
PutsCardOrRefuses p card t (Err e) t' = (refusal_of (card_fault card) ≡ Some e) × (t' ≡ t)

-- the table after a call that is not refused: a card's beam is open at its place, the place is
-- emptied, the mark of the kind with this number is set, or the lightest cage from stock is stored,
-- or that there is none; reading and counting change nothing
abbrev pub Does : (Beam → Cage → ℕ) → Table → Call → Table → Type 0
Does answer t (Enter p card) t' = PutsCard p card.now t t'
Does answer t (Correct p card) t' = PutsCard p card.now t t'
Does answer t (Strike p) t' = t' ≡ with_place t p None
Does answer t (Stock kind mark is-in) t' =
    (k : Kind) × ((kind ≡ kind_number k) × (t' ≡ restocked k mark is-in t))
Does answer t (Design p) t' =
    (b : Beam)
    × ((d : Decision)
    × ((beam_of (place_at t p) ≡ Some b) × Lightest answer (has t.stock) b d
    × (t' ≡ settled p b d t)))
Does answer t (Read p) t' = t' ≡ t
Does answer t Count t' = t' ≡ t

-- a call is refused, and nothing has changed; or it is done
abbrev pub Makes : (Beam → Cage → ℕ) → Table → Call → Option Refusal → Table → Type 0
Makes answer t call (Some e) t' = (why t call ≡ Some e) × (t' ≡ t)
Makes answer t call None t' = (why t call ≡ None) × Does answer t call t'

-- the refusal of a call, none where it is not refused
abbrev pub refusal : {A : Type 0} → Result A Refusal → Option Refusal
refusal (Ok x) = None
refusal (Err e) = Some e

-- the answer to a call that only changes the sheet
abbrev pub done : Result Unit Refusal → Result Answer Refusal
done (Ok x) = Ok answer.Done
done (Err e) = Err e

-- the answer to a call that reads a place
abbrev pub shows : Result Reading Refusal → Result Answer Refusal
shows (Ok reading) = Ok (answer.Shows reading)
shows (Err e) = Err e

-- what the place shows, or that there is no such place
abbrev pub Reads : ℕ → Table → Result Reading Refusal → Type 0
Reads p t (Ok rd) = (p ≤ last_place) × (rd.place ≡ p) × (rd.shown ≡ shown_of (place_at t p))
Reads p t (Err e) = (last_place < p) × (e ≡ NoSuchPlace)
