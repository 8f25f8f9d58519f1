-- What stands at the front of a page after each call of a bill.
use Rattle.std.proofs.Common.{◌≡◌, ℕ, ◌+◌, ◌≤◌, Bool, true, false, cond, List, [], ◌∷◌, ◌++◌, length, take, drop, nat_lt, Some, None, Ok, Err, Result, sym, refl, ap, ◌∙◌, arith, length-append, append_assoc, append-nil, length-drop, ltb-false}
use Rattle.std.proofs.Math.Seq.{take-append_seam, take-append-add, drop-append-add}
use Rattle.std.proofs.lemmas.Grind.{flat_map-append}
use Rattle.std.proofs.lemmas.Option.{none-some}
use Rattle.std.proofs.lemmas.List.{drop-drop}
use Rattle.std.proofs.lemmas.List.Sums.{sum_by-append}
use Rattle.search.specs.declared.decision.Choice.{Choice}
use Rattle.sheet.specs.declared.reading.Reading.{Reading}
use Rattle.sheet.specs.declared.reading.Shown.{Shown}
use Rattle.sheet.specs.declared.reading.Shown.TheVariants.{Empty, Open, Chosen, Impossible}
use Rattle.bill.specs.Text.{put}
use Rattle.bill.specs.Bill.{line_text, total_text, head_text}
use Rattle.bill.specs.Steps.{short, Puts, Added, BegunAs, LineAs, TotalAs}
use Rattle.bill.specs.Whole.{lines_text, steel_of, HasLines, BeginsBill, TakesLine, EndsBill}
use Rattle.bill.specs.declared.bill.Begun.{Begun}
use Rattle.bill.specs.declared.bill.Refused.{Refused}
use Rattle.bill.specs.declared.bill.Totalled.{Totalled}
use Rattle.bill.specs.declared.refusal.Refusal.{Refusal}
use Rattle.bill.specs.declared.refusal.Refusal.TheVariants.{PageShort}

-- bytes put after a front make a longer front
put_front : (page front bs : List ℕ) (w : ℕ) → take w page ≡ front → w ≡ length front → take (w + length bs) (put page w bs) ≡ front ++ bs
put_front page front bs w e l =
    ap (λ (u : List ℕ). take (w + length bs) (u ++ (bs ++ drop (w + length bs) page))) e
    ∙ ap (λ (n : ℕ). take (n + length bs) (front ++ (bs ++ drop (w + length bs) page))) l
    ∙ take-append-add front (bs ++ drop (w + length bs) page) (length bs)
    ∙ ap (λ (u : List ℕ). front ++ u) (take-append_seam bs (drop (w + length bs) page))

module _ (page page' front bs : List ℕ) (w v : ℕ) (p : Puts page w bs v page') (e : take w page ≡ front) (l : w ≡ length front) where
  longer : take v page' ≡ front ++ bs
  longer = rw (p.0, p.1) (put_front page front bs w e l)

  long : v ≡ length (front ++ bs)
  long = rw (length-append front bs) (omega (arith, p.1, l))

-- bytes that are not refused have room
pub has_room : (page bs : List ℕ) (w : ℕ) → short page w bs ≡ None → w + length bs ≤ length page
has_room page bs w h = go (nat_lt (length page) (w + length bs)) refl
  where
    go : (v : Bool) → nat_lt (length page) (w + length bs) ≡ v → w + length bs ≤ length page
    go true e = absurd (none-some PageShort (sym h ∙ ap (λ (v : Bool). cond v (Some PageShort) None) e))
    go false e = ltb-false (length page) (w + length bs) e

-- texts put on a page one after the other stand there as one
pub put_more : (page a b : List ℕ) → put (put page 0 a) (length a) b ≡ put page 0 (a ++ b)
put_more page a b =
    rw
    (take-append_seam a (drop (0 + length a) page), drop-append-add a (drop (0 + length a) page) (length b), drop-drop (length b) (0 + length a) page, append_assoc a b (drop (0 + length (a ++ b)) page))
    (ap (λ (n : ℕ). a ++ (b ++ drop n page)) (rw (length-append a b) (omega arith)))

-- a page stays as long as it was
pub length_put : (page a : List ℕ) → 0 + length a ≤ length page → length (put page 0 a) ≡ length page
length_put page a h =
    length-append a (drop (0 + length a) page) ∙ rw (length-drop (0 + length a) page) (omega (arith, h))

pub begins : (page page' : List ℕ) (r : Result Begun Refusal) → BegunAs page r page' → BeginsBill r page'
unfolding BeginsBill
begins page page' (Ok b) h = record {
  bytes = longer page page' [] head_text 0 b.written h.1 refl refl ∙ sym (append-nil head_text);
  written = long page page' [] head_text 0 b.written h.1 refl refl ∙ ap length (sym (append-nil head_text));
  number = h.2;
  steel = h.3;
}
begins page page' (Err e) h = tt

-- the text of one line more
pub one_more : (lines : List (ℕ × Choice)) (place : ℕ) (x : Choice) → head_text ++ lines_text (lines ++ (place, x) ∷ []) ≡ (head_text ++ lines_text lines) ++ line_text place x
one_more lines place x =
    ap (λ (u : List ℕ). head_text ++ u) (flat_map-append (λ l. line_text l.0 l.1) lines ((place, x) ∷ []) ∙ ap (λ (u : List ℕ). lines_text lines ++ u) (append-nil (line_text place x)))
    ∙ sym (append_assoc head_text (lines_text lines) (line_text place x))

-- one line more of a chosen cage
added : (page page' : List ℕ) (b b' : Begun) (place : ℕ) (x : Choice) → Added b page place (Chosen x) b' page' → (lines : List (ℕ × Choice)) → HasLines lines page b
    → HasLines (lines ++ (place, x) ∷ []) page' b'
added page page' b b' place x a lines h =
    let front = head_text ++ lines_text lines in
    let more = one_more lines place x in
    record {
      bytes = longer page page' front (line_text place x) b.written b'.written a.0 h.bytes h.written ∙ sym more;
      written = long page page' front (line_text place x) b.written b'.written a.0 h.bytes h.written ∙ ap length (sym more);
      number = rw (length-append lines ((place, x) ∷ [])) (omega (arith, a.1, h.number));
      steel = rw (sum_by-append (λ (l : ℕ × Choice). l.1.steel) lines ((place, x) ∷ [])) (omega (arith, a.2, h.steel));
    }

shown_added : (page page' : List ℕ) (b b' : Begun) (place : ℕ) (s : Shown) → Added b page place s b' page' → (lines : List (ℕ × Choice)) → HasLines lines page b
    → (x : Choice) × ((s ≡ Chosen x) × HasLines (lines ++ (place, x) ∷ []) page' b')
shown_added page page' b b' place Empty a lines h = absurd a
shown_added page page' b b' place Open a lines h = absurd a
shown_added page page' b b' place (Chosen x) a lines h = (x, (refl, added page page' b b' place x a lines h))
shown_added page page' b b' place (Impossible n) a lines h = absurd a

pub takes_line : (b : Begun) (page : List ℕ) (reading : Reading) (r : Result Begun Refused) (page' : List ℕ) → LineAs b page reading r page' → TakesLine b page reading r page'
unfolding TakesLine
takes_line b page reading (Ok b') page' h = λ lines has. shown_added page page' b b' reading.place reading.shown h.1 lines has
takes_line b page reading (Err e) page' h = tt

pub ends : (b : Begun) (page : List ℕ) (r : Result Totalled Refused) (page' : List ℕ) → TotalAs b page r page' → EndsBill b page r page'
unfolding EndsBill
ends b page (Ok t) page' h =
    λ lines has.
    let front = head_text ++ lines_text lines in
    let text : total_text b.lines b.steel ≡ total_text (length lines) (steel_of lines) = rw (has.number, has.steel) refl in (
      longer page page' front (total_text b.lines b.steel) b.written t.written h.1 has.bytes has.written ∙ ap (λ (u : List ℕ). front ++ u) text,
      long page page' front (total_text b.lines b.steel) b.written t.written h.1 has.bytes has.written ∙ ap (λ (u : List ℕ). length (front ++ u)) text,
    )
ends b page (Err e) page' h = tt
