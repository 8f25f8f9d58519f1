-- What a case that is tried leaves on its page.
use Rattle.std.specs.Prelude.{◌≡◌, ◌⊎◌, ℕ, zero, suc, ◌≤◌, List, [], ◌++◌, length, min, take, drop, count_by, ◌==◌}
use Rattle.search.specs.declared.decision.Choice.{Choice}
use Rattle.sheet.specs.declared.reading.Reading.{Reading}
use Rattle.bill.specs.Whole.{line_at}
use Rattle.pages.specs.declared.bills.Bill.{Bill}
use Rattle.pages.specs.declared.bills.Bill.TheVariants as bill
use Rattle.pages.specs.declared.bills.Stepped.{Stepped}
use Rattle.pages.specs.declared.case.Case.{Case}
use Rattle.pages.specs.declared.case.Step.{Step}
use Rattle.pages.specs.declared.case.Step.TheVariants.{Begin, Line, Total}
use Rattle.pages.specs.declared.tried.Tried.{Tried}
use Rattle.pages.specs.Steps.{AddsHead, AddsLine, AddsTotal, written_of, Stands, added, LacksHead, Refuses}

-- the line of a reading, so many times
abbrev pub lines_of : ℕ → Reading → List (ℕ × Choice)
lines_of zero rd = []
lines_of (suc n) rd = lines_of n rd ++ line_at rd.place rd.shown

-- a bill has all n lines, or refuses one more; there is none where its head has no room
abbrev pub HasMost : ℕ → ℕ → Reading → List ℕ → Bill → List ℕ → Type 0
HasMost count n rd page bill.None page' = (count ≡ 0) × LacksHead page
HasMost count n rd page (bill.Begun b) page' = (count ≡ n) ⊎ Refuses b page' rd
HasMost count n rd page (bill.Totalled t) page' = ⊥

-- a bill was begun on a page, and given a line n times
pub record Filled (n : ℕ) (rd : Reading) (page : List ℕ) (b : Bill) (page' : List ℕ) : Type 0 where
  pub count : ℕ
  pub within : count ≤ n
  pub lines : Stands (lines_of count rd) page b page'
  pub most : HasMost count n rd page b page'

-- something is done to the first n bytes of a page, and the others stay as they are
abbrev pub OnFront : (List ℕ → List ℕ → Type 0) → ℕ → List ℕ → List ℕ → Type 0
OnFront Done n page page' =
    (front : List ℕ) × (Done (take n page) front × (page' ≡ front ++ drop n page))

-- something is done to a bill with the lines of a case, so many of them, and to its page
abbrev pub AfterLines : Case → List ℕ → (ℕ → Bill → List ℕ → Type 0) → Type 0
AfterLines case page Done =
    (b : Bill) × ((mid : List ℕ)
    × ((filled : Filled case.lines case.chosen page b mid) × Done filled.count b mid))

-- the step of a case, on the first n bytes of a page, and the lines of the bill that it leaves
abbrev pub Steps : Step → Case → ℕ → List ℕ → Stepped → List (ℕ × Choice) → List ℕ → Type 0
Steps Begin case n page s lines page' =
    (lines ≡ []) × OnFront (λ front. AddsHead front s) n page page'
Steps Line case n page s lines page' =
    AfterLines case page
    (λ count b mid. (lines ≡ lines_of count case.chosen ++ added b case.tried s.refusal)
    × OnFront (λ front. AddsLine b front case.tried s) n mid page')
Steps Total case n page s lines page' =
    AfterLines case page
    (λ count b mid. (lines ≡ lines_of count case.chosen)
    × OnFront (λ front. AddsTotal b front s) n mid page')

-- the step of a case, on as many first bytes of a page as it asks for or there are, and its bill
pub record Tries (case : Case) (page : List ℕ) (s : Stepped) (page' : List ℕ) : Type 0 where
  pub lines : List (ℕ × Choice)
  pub step : Steps case.step case (min case.page (length page)) page s lines page'
  pub bill : Stands lines page s.bill page'

-- a case was tried on a page: its step was made, then the total, and the bill stands there
pub record Made (case : Case) (page : List ℕ) (tried : Tried) (page' : List ℕ) : Type 0 where
  pub step : Stepped
  pub mid : List ℕ
  pub stepped : Tries case page step mid
  pub refusal : tried.refusal ≡ step.refusal
  pub written : tried.written ≡ written_of step.bill
  pub left : tried.left ≡ count_by (λ b. b == 46) mid
  pub end : Stepped
  pub ended : AddsTotal step.bill mid end page'
  pub whole : tried.whole ≡ written_of end.bill
  pub bill : Stands stepped.lines page end.bill page'
