-- How long a bill can get, and what one line more makes of it.
use Rattle.std.proofs.Common.{◌≡◌, ℕ, ◌+◌, ◌<◌, ◌≤◌, true, false, List, [], ◌∷◌, ◌++◌, length, take, codes, decimal, nat_lt, Some, None, Ok, Err, sym, refl, ap, ◌∙◌, subst, arith, length-append, append-nil, add-one}
use Rattle.std.proofs.lemmas.Option.{none-some}
use Rattle.std.proofs.lemmas.Fmt.{length-decimal-le}
use Rattle.std.proofs.lemmas.Bool.Decides.{nat_tests}
use Rattle.rebar.specs.declared.cage.Bars.{Bars}
use Rattle.rebar.specs.declared.cage.Ties.{Ties}
use Rattle.search.specs.declared.decision.Choice.{Choice}
use Rattle.sheet.specs.declared.reading.Reading.{Reading}
use Rattle.sheet.specs.declared.reading.Shown.{Shown}
use Rattle.sheet.specs.declared.reading.Shown.TheVariants.{Chosen}
use Rattle.sheet.specs.Size.{place_count}
use Rattle.sheet.specs.Places.{choice_of}
use Rattle.bill.specs.Text.{two}
use Rattle.bill.specs.Bill.{most_lines, bars_text, ties_text, line_text, total_text, head_text}
use Rattle.bill.specs.Steps.{short, why_line, Added, BegunAs, LineAs, TotalAs}
use Rattle.bill.specs.Whole.{HasLines, bill_text, BeginsBill, TakesLine, EndsBill, line_at}
use Rattle.bill.specs.declared.bill.Begun.{Begun}
use Rattle.bill.specs.declared.bill.Refused.{Refused}
use Rattle.bill.specs.declared.bill.Totalled.{Totalled}
use Rattle.bill.specs.declared.refusal.Refusal.{Refusal}
use Rattle.bill.proofs.Pages.{has_room}
use Rattle.console.specs.Bills.{lines_below}
use Rattle.console.specs.declared.billing.TheConstants.{PAGE}
use Rattle.console.specs.Billing.{Billed}

bars_length : (b : Bars) → length (bars_text b) ≤ 5
bars_length b =
    let n = length-decimal-le 2 b.number (omega arith) (omega (arith, b.counted)) (omega (arith, b.counted)) in
    let m = length-decimal-le 2 b.mark (omega arith) (omega (arith, b.marked)) (omega (arith, b.marked)) in
    rw (length-append (decimal b.number) (codes "#" ++ decimal b.mark), length-append (codes "#") (decimal b.mark)) (omega (arith, n, m))

ties_length : (t : Ties) → length (ties_text t) ≤ 6
ties_length t =
    let m = length-decimal-le 1 t.mark (omega arith) (omega (arith, t.marked)) (omega (arith, t.marked)) in
    let s = length-decimal-le 3 t.spacing (omega arith) (omega (arith, t.spaced)) (omega (arith, t.spaced)) in
    rw
    (length-append (codes "#") (decimal t.mark ++ (codes "@" ++ decimal t.spacing)), length-append (decimal t.mark) (codes "@" ++ decimal t.spacing), length-append (codes "@") (decimal t.spacing))
    (omega (arith, m, s))

pub line_length : (place : ℕ) (x : Choice) → length (line_text place x) ≤ 38
line_length place x =
    let b = bars_length x.cage.bottom in
    let t = bars_length x.cage.top in
    let s = ties_length x.cage.ties in
    let w = length-decimal-le 9 x.steel (omega arith) (omega (arith, x.steel_under_the_bound)) (omega (arith, x.steel_under_the_bound)) in
    rw (
      length-append (two place) (codes " B " ++ (bars_text x.cage.bottom ++ (codes " T " ++ (bars_text x.cage.top ++ (codes " S " ++ (ties_text x.cage.ties ++ (codes " " ++ (decimal x.steel ++ codes "\n")))))))),
      length-append (codes " B ") (bars_text x.cage.bottom ++ (codes " T " ++ (bars_text x.cage.top ++ (codes " S " ++ (ties_text x.cage.ties ++ (codes " " ++ (decimal x.steel ++ codes "\n"))))))),
      length-append (bars_text x.cage.bottom) (codes " T " ++ (bars_text x.cage.top ++ (codes " S " ++ (ties_text x.cage.ties ++ (codes " " ++ (decimal x.steel ++ codes "\n")))))),
      length-append (codes " T ") (bars_text x.cage.top ++ (codes " S " ++ (ties_text x.cage.ties ++ (codes " " ++ (decimal x.steel ++ codes "\n"))))),
      length-append (bars_text x.cage.top) (codes " S " ++ (ties_text x.cage.ties ++ (codes " " ++ (decimal x.steel ++ codes "\n")))),
      length-append (codes " S ") (ties_text x.cage.ties ++ (codes " " ++ (decimal x.steel ++ codes "\n"))),
      length-append (ties_text x.cage.ties) (codes " " ++ (decimal x.steel ++ codes "\n")),
      length-append (codes " ") (decimal x.steel ++ codes "\n"),
      length-append (decimal x.steel) (codes "\n"),
    )
    (omega (arith, b, t, s, w))

next_lines : (shown : ℕ → Shown) (n : ℕ) (s : Shown) → shown n ≡ s → lines_below shown (n + 1) ≡ lines_below shown n ++ line_at n s
next_lines shown n s e = rw add-one (ap (λ (v : Shown). lines_below shown n ++ line_at n v) e)

-- a place that is not chosen makes no line
pub left_out : (bill : Begun) (page : List ℕ) (shown : ℕ → Shown) (place n : ℕ) (s : Shown) → n ≡ place + 1 → shown place ≡ s → line_at place s ≡ []
    → Billed shown place page bill → Billed shown n page bill
left_out bill page shown place n s more e none b =
    let same : lines_below shown n ≡ lines_below shown place =
    ap (lines_below shown) more ∙ next_lines shown place s e ∙ ap (λ (l : List (ℕ × Choice)). lines_below shown place ++ l) none ∙ append-nil (lines_below shown place) in
    record {
      lines = subst (λ (l : List (ℕ × Choice)). HasLines l page bill) (sym same) b.lines;
      few = omega (arith, b.few);
      short = omega (arith, b.short);
      room = b.room;
    }

-- a line that the page has room for is not refused
not_refused : (bill : Begun) (page : List ℕ) (place : ℕ) (x : Choice) (e : Refusal) → bill.lines < most_lines → bill.written + 38 ≤ length page
    → (s : Shown) → choice_of s ≡ Some x → why_line bill page place s ≡ Some e → ⊥
not_refused bill page place x e few room s chosen h =
    let l = line_length place x in
    let t : nat_lt bill.lines most_lines ≡ true = grind (arith, nat_tests) in
    let f : nat_lt (length page) (bill.written + length (line_text place x)) ≡ false = grind (arith, nat_tests) in
    none-some e (sym (rw (chosen, t, f) refl) ∙ h)

-- a chosen place makes one
pub line_more : (bill bill' : Begun) (page page' : List ℕ) (shown : ℕ → Shown) (place : ℕ) (reading : Reading)
    → length page' ≡ length page → reading.place ≡ place → reading.shown ≡ shown place
    → LineAs bill page reading (Ok bill') page' → TakesLine bill page reading (Ok bill') page'
    → Billed shown place page bill → Billed shown (place + 1) page' bill'
unfolding TakesLine
line_more bill bill' page page' shown place reading long at is l takes b =
    let t = takes (lines_below shown place) b.lines in
    let a = added t.0 t.1.0 l.1 in
    let size = line_length reading.place t.0 in
    record {
      lines = subst (λ (ls : List (ℕ × Choice)). HasLines ls page' bill')
          (ap (λ (p : ℕ). lines_below shown place ++ (p, t.0) ∷ []) at ∙ sym (next_lines shown place (Chosen t.0) (sym is ∙ t.1.0))) t.1.1;
      few = omega (arith, a.1, b.few);
      short = omega (arith, a.0, size, b.short);
      room = long ∙ b.room;
    }
  where
    added : (x : Choice) → reading.shown ≡ Chosen x → Added bill page reading.place reading.shown bill' page'
        → (bill'.written ≡ bill.written + length (line_text reading.place x)) × (bill'.lines ≡ bill.lines + 1)
    added x chosen d = let c : Added bill page reading.place (Chosen x) bill' page' = subst (λ (s : Shown). Added bill page reading.place s bill' page') chosen d in (c.0.1, c.1)

pub line_fits : (bill : Begun) (page page' : List ℕ) (shown : ℕ → Shown) (place : ℕ) (reading : Reading) (x : Choice) (e : Refused)
    → place < place_count → choice_of reading.shown ≡ Some x → LineAs bill page reading (Err e) page' → Billed shown place page bill → ⊥
line_fits bill page page' shown place reading x e small chosen l b =
    not_refused bill page reading.place x e.refusal (omega (arith, b.few, small)) (omega (arith, b.short, b.room, small))
    reading.shown chosen l.0

total_length : (b : Begun) → length (total_text b.lines b.steel) ≤ 22
total_length b =
    let n = length-decimal-le 2 b.lines (omega arith) (omega (arith, b.within_most_lines)) (omega (arith, b.within_most_lines)) in
    let s = length-decimal-le 12 b.steel (omega arith) (omega (arith, b.within_most_lines, b.steel_of_its_lines)) (omega (arith, b.within_most_lines, b.steel_of_its_lines)) in
    rw (
      length-append (codes "TOTAL ") (decimal b.lines ++ (codes " " ++ (decimal b.steel ++ codes "\n"))),
      length-append (decimal b.lines) (codes " " ++ (decimal b.steel ++ codes "\n")),
      length-append (codes " ") (decimal b.steel ++ codes "\n"),
      length-append (decimal b.steel) (codes "\n"),
    )
    (omega (arith, n, s))

-- bytes that the page has room for are not refused
roomy_enough : (page bs : List ℕ) (w : ℕ) (e : Refusal) → w + length bs ≤ length page → short page w bs ≡ Some e → ⊥
roomy_enough page bs w e room h =
    let f : nat_lt (length page) (w + length bs) ≡ false = grind (arith, nat_tests) in none-some e (sym (rw f refl) ∙ h)

-- the bill on a page with room
module _ (page page' : List ℕ) (shown : ℕ → Shown) (long : length page' ≡ length page) where
  pub begun_lines : (bill : Begun) → BeginsBill (Ok bill) page' → BegunAs page (Ok bill) page' → length page ≡ PAGE → Billed shown 0 page' bill
  unfolding BeginsBill
  begun_lines bill h a room =
      record { lines = h; few = omega (arith, a.2); short = omega (arith, a.1.1); room = long ∙ room }

  pub begin_fits : (e : Refusal) → BegunAs page (Err e) page' → length page ≡ PAGE → ⊥
  begin_fits e h room = roomy_enough page head_text 0 e (omega (arith, room)) h.0

  pub ended_bill : (bill : Begun) (t : Totalled) → EndsBill bill page (Ok t) page' → TotalAs bill page (Ok t) page' → Billed shown place_count page bill
      → (take t.written page' ≡ bill_text (lines_below shown place_count)) × (t.written ≤ PAGE)
  unfolding EndsBill
  ended_bill bill t h a b =
      let there = has_room page (total_text bill.lines bill.steel) bill.written a.0 in
      ((h (lines_below shown place_count) b.lines).0, omega (arith, a.1.1, there, b.room))

  pub total_fits : (bill : Begun) (e : Refused) → TotalAs bill page (Err e) page' → Billed shown place_count page bill → ⊥
  total_fits bill e h b = roomy_enough page (total_text bill.lines bill.steel) bill.written e.refusal (omega (arith, b.room, b.short, total_length bill)) h.0

-- a place that shows no chosen cage makes no line
pub no_line : (p : ℕ) (s : Shown) → choice_of s ≡ None → line_at p s ≡ []
no_line p s e = rw e refl
