-- What a whole bill is, and how its calls make one.
use Rattle.std.specs.Prelude.{◌≡◌, ℕ, List, [], ◌∷◌, ◌++◌, length, take, sum_by, flat_map, Result, IfOk}
use Rattle.std.specs.Option.{option_map_or}
use Rattle.search.specs.declared.decision.Choice.{Choice}
use Rattle.sheet.specs.declared.reading.Reading.{Reading}
use Rattle.sheet.specs.declared.reading.Shown.{Shown}
use Rattle.sheet.specs.declared.reading.Shown.TheVariants.{Chosen}
use Rattle.sheet.specs.Places.{choice_of}
use Rattle.bill.specs.Bill.{line_text, total_text, head_text}
use Rattle.bill.specs.declared.bill.Begun.{Begun}
use Rattle.bill.specs.declared.bill.Refused.{Refused}
use Rattle.bill.specs.declared.bill.Totalled.{Totalled}
use Rattle.bill.specs.declared.refusal.Refusal.{Refusal}

-- a place makes a line where it shows a chosen cage
abbrev pub line_at : ℕ → Shown → List (ℕ × Choice)
line_at p shown = option_map_or (λ x. (p, x) ∷ []) (choice_of shown) []

-- the lines of chosen cages, each with its place
abbrev pub lines_text : List (ℕ × Choice) → List ℕ
lines_text = flat_map (λ l. line_text l.0 l.1)

-- their steel together
abbrev pub steel_of : List (ℕ × Choice) → ℕ
steel_of = sum_by (λ l. l.1.steel)

-- a whole bill: the head, the lines, and the total of their number and their steel
abbrev pub bill_text : List (ℕ × Choice) → List ℕ
bill_text lines = (head_text ++ lines_text lines) ++ total_text (length lines) (steel_of lines)

-- a begun bill has these lines: head and lines are the first bytes of the page, and the bill's
-- numbers are theirs
pub record HasLines (lines : List (ℕ × Choice)) (page : List ℕ) (bill : Begun) : Type 0 where
  pub bytes : take bill.written page ≡ head_text ++ lines_text lines
  pub written : bill.written ≡ length (head_text ++ lines_text lines)
  pub number : bill.lines ≡ length lines
  pub steel : bill.steel ≡ steel_of lines

-- a bill begins with no line
unfoldable pub BeginsBill : Result Begun Refusal → List ℕ → Type 0
BeginsBill r page' = IfOk r (λ bill. HasLines [] page' bill)

-- a line that is not refused is of a chosen cage, and comes after those that the bill has
unfoldable pub TakesLine : Begun → List ℕ → Reading → Result Begun Refused → List ℕ → Type 0
TakesLine bill page reading r page' =
    IfOk r
    (λ bill'. (lines : List (ℕ × Choice)) → HasLines lines page bill
    → (x : Choice)
    × ((reading.shown ≡ Chosen x)
    × HasLines (lines ++ (reading.place, x) ∷ []) page' bill'))

-- with a total that is not refused, the first bytes of the page are the whole bill of the lines
-- that it has
unfoldable pub EndsBill : Begun → List ℕ → Result Totalled Refused → List ℕ → Type 0
EndsBill bill page r page' =
    IfOk r
    (λ totalled. (lines : List (ℕ × Choice)) → HasLines lines page bill
    → (take totalled.written page' ≡ bill_text lines)
    × (totalled.written ≡ length (bill_text lines)))
