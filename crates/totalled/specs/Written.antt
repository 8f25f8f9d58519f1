-- What the program writes on its two pages.
use Rattle.std.specs.Prelude.{◌≡◌, ℕ, ◌≤◌, length, List, [], ◌∷◌, ◌++◌, Some, None, Ok, Err, Option, Result, MatchOption}
use Rattle.std.specs.Option.{option_or, option_map_or}
use Rattle.search.specs.declared.decision.Choice.{Choice}
use Rattle.sheet.specs.declared.reading.Reading.{Reading}
use Rattle.sheet.specs.declared.reading.Shown.{Shown}
use Rattle.sheet.specs.declared.reading.Shown.TheVariants.{Empty, Open, Chosen, Impossible}
use Rattle.bill.specs.Bill.{head_text}
use Rattle.bill.specs.Steps.{short, Puts}
use Rattle.bill.specs.Text.{put}
use Rattle.bill.specs.Whole.{lines_text, bill_text}
use Rattle.bill.specs.declared.refusal.Refusal.{Refusal}
use Rattle.bill.specs.declared.refusal.Refusal.TheVariants.{NotChosen}

-- the one line of each bill
abbrev pub line_alone : ℕ → Choice → List (ℕ × Choice)
line_alone place x = (place, x) ∷ []

-- the first bill, with its total
abbrev pub whole_text : ℕ → Choice → List ℕ
whole_text place x = bill_text (line_alone place x)

-- the second bill, without a total
abbrev pub torn_text : ℕ → Choice → List ℕ
torn_text place x = head_text ++ lines_text (line_alone place x)

-- why there are no two bills: a page is short of its own, or the place is not chosen
abbrev pub why_none : List ℕ → List ℕ → ℕ → Shown → Option Refusal
why_none page next place Empty = option_or (short page 0 head_text) (Some NotChosen)
why_none page next place Open = option_or (short page 0 head_text) (Some NotChosen)
why_none page next place (Chosen x) =
    option_or (short page 0 (whole_text place x)) (short next 0 (torn_text place x))
why_none page next place (Impossible n) = option_or (short page 0 head_text) (Some NotChosen)

-- the bills of a chosen cage were put on the two pages
abbrev pub Put : List ℕ → List ℕ → ℕ → Shown → ℕ × ℕ → List ℕ → List ℕ → Type 0
Put page next place Empty written page' next' = ⊥
Put page next place Open written page' next' = ⊥
Put page next place (Chosen x) written page' next' =
    Puts page 0 (whole_text place x) written.0 page'
    × Puts next 0 (torn_text place x) written.1 next'
Put page next place (Impossible n) written page' next' = ⊥

-- both bills are on their pages, or the first refusal
abbrev pub BillsAs : List ℕ → List ℕ → Reading → Result (ℕ × ℕ) Refusal → List ℕ → List ℕ → Type 0
BillsAs page next rd (Ok written) page' next' =
    (why_none page next rd.place rd.shown ≡ None)
    × Put page next rd.place rd.shown written page' next'
BillsAs page next rd (Err e) page' next' = why_none page next rd.place rd.shown ≡ Some e

-- the last of some texts, each of which goes on with the one before, that a page has room for
abbrev pub roomy : List ℕ → List ℕ → List (List ℕ) → List ℕ
roomy page text [] = text
roomy page text (longer ∷ more) =
    option_map_or (λ e. text) (short page 0 longer) (roomy page longer more)

-- a refusal leaves on a page what was written before it, and no other byte of the page has changed
abbrev pub Stops : List ℕ → List (List ℕ) → List ℕ → Type 0
Stops page texts page' = page' ≡ put page 0 (roomy page [] texts)

-- what a refusal leaves on both pages: none on the next one where the first bill is not whole
abbrev pub Left : List ℕ → List ℕ → ℕ → Shown → List ℕ → List ℕ → Type 0
Left page next place Empty page' next' = Stops page (head_text ∷ []) page' × (next' ≡ next)
Left page next place Open page' next' = Stops page (head_text ∷ []) page' × (next' ≡ next)
Left page next place (Chosen x) page' next' =
    Stops page (head_text ∷ torn_text place x ∷ whole_text place x ∷ []) page'
    × MatchOption (short page 0 (whole_text place x))
    (Stops next (head_text ∷ []) next') (λ e. next' ≡ next)
Left page next place (Impossible n) page' next' = Stops page (head_text ∷ []) page' × (next' ≡ next)

-- two pages are as long as what is written on them, or longer
abbrev pub AreOn : ℕ × ℕ → List ℕ → List ℕ → Type 0
AreOn written page next = (written.0 ≤ length page) × (written.1 ≤ length next)
