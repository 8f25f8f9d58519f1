-- What each step of a bill does: the page and the bill after it, or why it is refused.
use Rattle.std.specs.Prelude.{◌≡◌, ℕ, ◌+◌, cond, List, length, Some, None, Ok, Err, Option, Result, IsSomeAnd, nat_lt}
use Rattle.std.specs.Option.{option_map_or}
use Rattle.sheet.specs.declared.reading.Reading.{Reading}
use Rattle.sheet.specs.declared.reading.Shown.{Shown}
use Rattle.sheet.specs.Places.{choice_of}
use Rattle.bill.specs.Text.{put}
use Rattle.bill.specs.Bill.{most_lines, line_text, total_text, head_text}
use Rattle.bill.specs.declared.bill.Begun.{Begun}
use Rattle.bill.specs.declared.bill.Refused.{Refused}
use Rattle.bill.specs.declared.bill.Totalled.{Totalled}
use Rattle.bill.specs.declared.refusal.Refusal.{Refusal}
use Rattle.bill.specs.declared.refusal.Refusal.TheVariants.{PageShort, NotChosen, Full}

-- refused where the page is shorter than the bytes so far, w of them, and the new ones together
abbrev pub short : List ℕ → ℕ → List ℕ → Option Refusal
short page w bs = cond (nat_lt (length page) (w + length bs)) (Some PageShort) None

-- why a line is refused: the place is not chosen, the bill has as many lines as it may, the page is
-- short
abbrev pub why_line : Begun → List ℕ → ℕ → Shown → Option Refusal
why_line b page place shown =
    option_map_or
    (λ x. cond (nat_lt b.lines most_lines) (short page b.written (line_text place x)) (Some Full))
    (choice_of shown) (Some NotChosen)

-- bs was put on the page after the bytes so far, w of them, and there are v bytes now
abbrev pub Puts : List ℕ → ℕ → List ℕ → ℕ → List ℕ → Type 0
Puts page w bs v page' = (page' ≡ put page w bs) × (v ≡ w + length bs)

-- bs is on the page after the bytes so far, w of them; or the page is short, and no byte of it has
-- changed
abbrev pub AppendedAs : List ℕ → ℕ → List ℕ → Result ℕ Refusal → List ℕ → Type 0
AppendedAs page w bs (Ok v) page' = (short page w bs ≡ None) × Puts page w bs v page'
AppendedAs page w bs (Err e) page' = (short page w bs ≡ Some e) × (page' ≡ page)

-- a line was added, of the cage that is shown
abbrev pub Added : Begun → List ℕ → ℕ → Shown → Begun → List ℕ → Type 0
Added b page place shown b' page' =
    IsSomeAnd (choice_of shown)
    (λ x. Puts page b.written (line_text place x) b'.written page'
    × (b'.lines ≡ b.lines + 1) × (b'.steel ≡ b.steel + x.steel))

-- the bill is handed back as it was, and no byte of the page has changed
abbrev pub Back : Begun → List ℕ → Option Refusal → Refused → List ℕ → Type 0
Back b page why e page' = (why ≡ Some e.refusal) × (e.bill ≡ b) × (page' ≡ page)

-- a begin: the head is on the page and the bill has no line, or the first refusal and nothing has
-- changed
abbrev pub BegunAs : List ℕ → Result Begun Refusal → List ℕ → Type 0
BegunAs page (Ok b) page' =
    (short page 0 head_text ≡ None) × Puts page 0 head_text b.written page'
    × (b.lines ≡ 0) × (b.steel ≡ 0)
BegunAs page (Err e) page' = (short page 0 head_text ≡ Some e) × (page' ≡ page)

-- a line: it is added, or the bill is handed back with the first refusal
abbrev pub LineAs : Begun → List ℕ → Reading → Result Begun Refused → List ℕ → Type 0
LineAs b page rd (Ok b') page' =
    (why_line b page rd.place rd.shown ≡ None) × Added b page rd.place rd.shown b' page'
LineAs b page rd (Err e) page' = Back b page (why_line b page rd.place rd.shown) e page'

-- a total: it is on the page, or the bill is handed back with the refusal
abbrev pub TotalAs : Begun → List ℕ → Result Totalled Refused → List ℕ → Type 0
TotalAs b page (Ok t) page' =
    (short page b.written (total_text b.lines b.steel) ≡ None)
    × Puts page b.written (total_text b.lines b.steel) t.written page'
TotalAs b page (Err e) page' =
    Back b page (short page b.written (total_text b.lines b.steel)) e page'
