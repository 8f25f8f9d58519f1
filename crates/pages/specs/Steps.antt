-- What a step makes of a bill and of the page that it is on.
use Rattle.std.specs.Prelude.{◌≡◌, ℕ, ◌≤◌, List, [], ◌++◌, length, Some, None, Ok, Err, Option, Result}
use Rattle.search.specs.declared.decision.Choice.{Choice}
use Rattle.sheet.specs.declared.reading.Reading.{Reading}
use Rattle.bill.specs.Bill.{head_text}
use Rattle.bill.specs.Steps.{short, why_line, BegunAs, LineAs, TotalAs}
use Rattle.bill.specs.Text.{put}
use Rattle.bill.specs.Whole.{line_at, lines_text, steel_of, bill_text}
use Rattle.bill.specs.declared.bill.Begun.{Begun}
use Rattle.bill.specs.declared.bill.Refused.{Refused}
use Rattle.bill.specs.declared.bill.Totalled.{Totalled}
use Rattle.bill.specs.declared.refusal.Refusal.{Refusal}
use Rattle.pages.specs.declared.bills.Bill.{Bill}
use Rattle.pages.specs.declared.bills.Bill.TheVariants as bill
use Rattle.pages.specs.declared.bills.Stepped.{Stepped}

-- a step that was taken
abbrev pub taken : Bill → Stepped
taken b = record { bill = b; refusal = None }

-- a step that was refused, whose bill is handed back
abbrev pub handed_back : Refused → Stepped
handed_back e = record { bill = bill.Begun e.bill; refusal = Some e.refusal }

-- what a begin comes to: a bill, or none
abbrev pub after_begin : Result Begun Refusal → Stepped
after_begin (Ok b) = taken (bill.Begun b)
after_begin (Err e) = record { bill = bill.None; refusal = Some e }

-- what a line comes to
abbrev pub after_line : Result Begun Refused → Stepped
after_line (Ok b) = taken (bill.Begun b)
after_line (Err e) = handed_back e

-- what a total comes to
abbrev pub after_total : Result Totalled Refused → Stepped
after_total (Ok t) = taken (bill.Totalled t)
after_total (Err e) = handed_back e

-- a begin on a page
abbrev pub AddsHead : List ℕ → Stepped → List ℕ → Type 0
AddsHead page s page' = (r : Result Begun Refusal) × ((s ≡ after_begin r) × BegunAs page r page')

-- nothing is done
abbrev pub Skips : Bill → List ℕ → Stepped → List ℕ → Type 0
Skips b page s page' = (s ≡ taken b) × (page' ≡ page)

-- a line on a page, where the bill still takes lines
abbrev pub AddsLine : Bill → List ℕ → Reading → Stepped → List ℕ → Type 0
AddsLine (bill.Begun b) page rd s page' =
    (r : Result Begun Refused) × ((s ≡ after_line r) × LineAs b page rd r page')
AddsLine bill.None page rd s page' = Skips bill.None page s page'
AddsLine (bill.Totalled t) page rd s page' = Skips (bill.Totalled t) page s page'

-- a total on a page, where the bill has none yet
abbrev pub AddsTotal : Bill → List ℕ → Stepped → List ℕ → Type 0
AddsTotal (bill.Begun b) page s page' =
    (r : Result Totalled Refused) × ((s ≡ after_total r) × TotalAs b page r page')
AddsTotal bill.None page s page' = Skips bill.None page s page'
AddsTotal (bill.Totalled t) page s page' = Skips (bill.Totalled t) page s page'

-- how many bytes a bill has
abbrev pub written_of : Bill → ℕ
written_of bill.None = 0
written_of (bill.Begun b) = b.written
written_of (bill.Totalled t) = t.written

-- the bytes of a bill of these lines, with its total where it has one; none where there is no bill
abbrev pub text_of : List (ℕ × Choice) → Bill → List ℕ
text_of lines bill.None = []
text_of lines (bill.Begun b) = head_text ++ lines_text lines
text_of lines (bill.Totalled t) = bill_text lines

-- a bill that takes lines counts these and their steel
abbrev pub Counts : List (ℕ × Choice) → Bill → Type 0
Counts lines bill.None = Unit {0}
Counts lines (bill.Begun b) = (b.lines ≡ length lines) × (b.steel ≡ steel_of lines)
Counts lines (bill.Totalled t) = Unit {0}

-- a bill of these lines was put at the front of a page, whose other bytes are as they were before
pub record Stands (lines : List (ℕ × Choice)) (page : List ℕ) (b : Bill) (page' : List ℕ)
    : Type 0 where
  pub put : page' ≡ put page 0 (text_of lines b)
  pub written : written_of b ≡ length (text_of lines b)
  pub room : written_of b ≤ length page
  pub numbers : Counts lines b

-- the line that a step has added
abbrev pub added : Bill → Reading → Option Refusal → List (ℕ × Choice)
added (bill.Begun b) rd None = line_at rd.place rd.shown
added (bill.Begun b) rd (Some e) = []
added bill.None rd o = []
added (bill.Totalled t) rd o = []

-- the lines that a bill has stay its first, and more come after them
abbrev pub Keeps : Bill → List ℕ → List (ℕ × Choice) → Bill → List ℕ → Type 0
Keeps b page more b' page' =
    (lines : List (ℕ × Choice)) (start : List ℕ) → Stands lines start b page
    → Stands (lines ++ more) start b' page'

-- the line that a step has added comes after those that the bill has
abbrev pub KeepsAndAdds : Bill → List ℕ → Reading → Stepped → List ℕ → Type 0
KeepsAndAdds b page rd s page' = Keeps b page (added b rd s.refusal) s.bill page'

-- a page has no room for a bill's head
abbrev pub LacksHead : List ℕ → Type 0
LacksHead page = (e : Refusal) × (short page 0 head_text ≡ Some e)

-- a begun bill refuses the line of a reading
abbrev pub Refuses : Begun → List ℕ → Reading → Type 0
Refuses b page rd = (e : Refusal) × (why_line b page rd.place rd.shown ≡ Some e)
