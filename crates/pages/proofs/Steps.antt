-- What stands on a page after each step.
use Rattle.std.proofs.Common.{◌≡◌, ℕ, ◌+◌, ◌≤◌, Bool, true, false, cond, List, [], ◌∷◌, ◌++◌, length, take, drop, nat_lt, Some, None, Ok, Err, sym, refl, ap, ◌∙◌, subst, arith, append-nil, length-append, append_assoc}
use Rattle.std.proofs.lemmas.List.{take-append-le, drop-append-le}
use Rattle.std.proofs.lemmas.List.Sums.{sum_by-append}
use Rattle.std.proofs.lemmas.Option.{none-some}
use Rattle.search.specs.declared.decision.Choice.{Choice}
use Rattle.sheet.specs.declared.reading.Reading.{Reading}
use Rattle.sheet.specs.declared.reading.Shown.{Shown}
use Rattle.sheet.specs.declared.reading.Shown.TheVariants as shown
use Rattle.bill.specs.Bill.{line_text, total_text, head_text}
use Rattle.bill.specs.Steps.{short, why_line, Puts, Added}
use Rattle.bill.specs.Text.{put}
use Rattle.bill.specs.Whole.{line_at, lines_text, bill_text}
use Rattle.bill.specs.declared.bill.Begun.{Begun}
use Rattle.bill.specs.declared.refusal.Refusal.TheVariants.{Full}
use Rattle.bill.proofs.Pages.{has_room, one_more, put_more, length_put}
use Rattle.pages.specs.declared.bills.Bill.{Bill}
use Rattle.pages.specs.declared.bills.Bill.TheVariants as bill
use Rattle.pages.specs.declared.bills.Stepped.{Stepped}
use Rattle.pages.specs.Steps.{AddsHead, AddsLine, AddsTotal, Stands, Keeps, added}

-- bytes put on the front of a page are put on the page
put_on_front : (front rest bs : List ℕ) (w : ℕ) → w + length bs ≤ length front → put front w bs ++ rest ≡ put (front ++ rest) w bs
put_on_front front rest bs w room =
    let fits : w ≤ length front = omega (arith, room) in
    rw
    (take-append-le w front rest fits, drop-append-le (w + length bs) front rest room, append_assoc (take w front) (bs ++ drop (w + length bs) front) rest, append_assoc bs (drop (w + length bs) front) rest)
    refl

-- bytes put after a text that stands at the front of a page
module _ (start front front' rest a bs : List ℕ) (w v : ℕ) (e : front ++ rest ≡ put start 0 a) (l : w ≡ length a) (r : w ≤ length start)
    (fits : short front w bs ≡ None) (p : Puts front w bs v front') where
  room : w + length bs ≤ length front
  room = has_room front bs w fits

  longer : front' ++ rest ≡ put start 0 (a ++ bs)
  longer =
      ap (λ (u : List ℕ). u ++ rest) p.0 ∙ put_on_front front rest bs w room ∙ ap (λ (u : List ℕ). put u w bs) e
      ∙ ap (λ (n : ℕ). put (put start 0 a) n bs) l ∙ put_more start a bs

  long : v ≡ length (a ++ bs)
  long = rw (length-append a bs) (omega (arith, p.1, l))

  within : v ≤ length start
  within = omega (arith, room, p.1, length-append front rest, ap length e, length_put start a (omega (arith, l, r)))

-- a line of a chosen cage that is not refused has room
line_fits : (b : Begun) (page : List ℕ) (place : ℕ) (x : Choice) → why_line b page place (shown.Chosen x) ≡ None → short page b.written (line_text place x) ≡ None
line_fits b page place x w = go (nat_lt b.lines 64) refl
  where
    go : (v : Bool) → nat_lt b.lines 64 ≡ v → short page b.written (line_text place x) ≡ None
    go true e = ap (λ (v : Bool). cond v (short page b.written (line_text place x)) (Some Full)) (sym e) ∙ w
    go false e = absurd (none-some Full (sym w ∙ ap (λ (v : Bool). cond v (short page b.written (line_text place x)) (Some Full)) e))

-- a step on the front of a page, whose rest stays as it is
module _ (lines : List (ℕ × Choice)) (start front front' rest : List ℕ) where
  line_more : (b b' : Begun) (place : ℕ) (s : Shown) → Stands lines start (bill.Begun b) (front ++ rest) → why_line b front place s ≡ None → Added b front place s b' front'
      → Stands (lines ++ line_at place s) start (bill.Begun b') (front' ++ rest)
  line_more b b' place shown.Empty k w a = absurd a
  line_more b b' place shown.Open k w a = absurd a
  line_more b b' place (shown.Impossible n) k w a = absurd a
  line_more b b' place (shown.Chosen x) k w a =
      let text = head_text ++ lines_text lines in
      let fits = line_fits b front place x w in
      record {
        put = longer start front front' rest text (line_text place x) b.written b'.written k.put k.written k.room fits a.0 ∙ ap (put start 0) (sym (one_more lines place x));
        written = long start front front' rest text (line_text place x) b.written b'.written k.put k.written k.room fits a.0 ∙ ap length (sym (one_more lines place x));
        room = within start front front' rest text (line_text place x) b.written b'.written k.put k.written k.room fits a.0;
        numbers = (
          rw (length-append lines ((place, x) ∷ [])) (omega (arith, a.1, k.numbers.0)),
          rw (sum_by-append (λ (l : ℕ × Choice). l.1.steel) lines ((place, x) ∷ [])) (omega (arith, a.2, k.numbers.1)),
        );
      }

  pub line_on_front : (b : Bill) (rd : Reading) (s : Stepped) → AddsLine b front rd s front' → Stands lines start b (front ++ rest)
      → Stands (lines ++ added b rd s.refusal) start s.bill (front' ++ rest)
  line_on_front bill.None rd s h k =
      subst (λ (z : Stepped). Stands (lines ++ added bill.None rd z.refusal) start z.bill (front' ++ rest)) (sym h.0) (rw (h.1, append-nil lines) k)
  line_on_front (bill.Totalled t) rd s h k =
      subst (λ (z : Stepped). Stands (lines ++ added (bill.Totalled t) rd z.refusal) start z.bill (front' ++ rest)) (sym h.0) (rw (h.1, append-nil lines) k)
  line_on_front (bill.Begun b) rd s (Ok b', (e, l)) k =
      subst (λ (z : Stepped). Stands (lines ++ added (bill.Begun b) rd z.refusal) start z.bill (front' ++ rest)) (sym e)
      (line_more b b' rd.place rd.shown k l.0 l.1)
  line_on_front (bill.Begun b) rd s (Err f, (e, l)) k =
      subst (λ (z : Stepped). Stands (lines ++ added (bill.Begun b) rd z.refusal) start z.bill (front' ++ rest)) (sym e) (rw (append-nil lines, l.2, l.1) k)

  pub total_on_front : (b : Bill) (s : Stepped) → AddsTotal b front s front' → Stands lines start b (front ++ rest) → Stands lines start s.bill (front' ++ rest)
  total_on_front bill.None s h k = subst (λ (z : Stepped). Stands lines start z.bill (front' ++ rest)) (sym h.0) (rw h.1 k)
  total_on_front (bill.Totalled t) s h k = subst (λ (z : Stepped). Stands lines start z.bill (front' ++ rest)) (sym h.0) (rw h.1 k)
  total_on_front (bill.Begun b) s (Ok t, (e, l)) k =
      let text = head_text ++ lines_text lines in
      let total = total_text b.lines b.steel in
      let same : text ++ total ≡ bill_text lines = rw (k.numbers.0, k.numbers.1) refl in
      subst (λ (z : Stepped). Stands lines start z.bill (front' ++ rest)) (sym e)
      (record {
        put = longer start front front' rest text total b.written t.written k.put k.written k.room l.0 l.1 ∙ ap (put start 0) same;
        written = long start front front' rest text total b.written t.written k.put k.written k.room l.0 l.1 ∙ ap length same;
        room = within start front front' rest text total b.written t.written k.put k.written k.room l.0 l.1;
        numbers = tt;
      })
  total_on_front (bill.Begun b) s (Err f, (e, l)) k = subst (λ (z : Stepped). Stands lines start z.bill (front' ++ rest)) (sym e) (rw (l.2, l.1) k)

pub head_on_front : (front front' rest : List ℕ) (s : Stepped) → AddsHead front s front' → Stands [] (front ++ rest) s.bill (front' ++ rest)
head_on_front front front' rest s (Ok b, (e, l)) =
    let page = front ++ rest in
    subst (λ (z : Stepped). Stands [] page z.bill (front' ++ rest)) (sym e)
    (record {
      put = longer page front front' rest [] head_text 0 b.written refl refl (omega arith) l.0 l.1 ∙ ap (put page 0) (sym (append-nil head_text));
      written = long page front front' rest [] head_text 0 b.written refl refl (omega arith) l.0 l.1 ∙ ap length (sym (append-nil head_text));
      room = within page front front' rest [] head_text 0 b.written refl refl (omega arith) l.0 l.1;
      numbers = (l.2, l.3);
    })
head_on_front front front' rest s (Err f, (e, l)) =
    subst (λ (z : Stepped). Stands [] (front ++ rest) z.bill (front' ++ rest)) (sym e)
    (record { put = ap (λ (u : List ℕ). u ++ rest) l.1; written = refl; room = omega arith; numbers = tt })

-- a step on a whole page
pub head_stands : (page page' : List ℕ) (s : Stepped) → AddsHead page s page' → Stands [] page s.bill page'
head_stands page page' s h =
    subst (λ (p : List ℕ). Stands [] p s.bill page') (append-nil page)
    (subst (λ (p : List ℕ). Stands [] (page ++ []) s.bill p) (append-nil page') (head_on_front page page' [] s h))

module _ (page page' : List ℕ) (b : Bill) (s : Stepped) where
  pub keeps_line : (rd : Reading) → AddsLine b page rd s page' → Keeps b page (added b rd s.refusal) s.bill page'
  keeps_line rd h =
      λ lines start k. subst (λ (p : List ℕ). Stands (lines ++ added b rd s.refusal) start s.bill p) (append-nil page')
      (line_on_front lines start page page' [] b rd s h (subst (λ (p : List ℕ). Stands lines start b p) (sym (append-nil page)) k))

  pub keeps_total : AddsTotal b page s page' → Keeps b page [] s.bill page'
  keeps_total h =
      λ lines start k. subst (λ (p : List ℕ). Stands (lines ++ []) start s.bill p) (append-nil page')
      (rw (append-nil lines) (total_on_front lines start page page' [] b s h (subst (λ (p : List ℕ). Stands lines start b p) (sym (append-nil page)) k)))
