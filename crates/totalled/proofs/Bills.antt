-- What becomes of the two bills, step by step.
use Rattle.std.proofs.Common.{◌≡◌, ℕ, ◌+◌, cond, List, ◌++◌, nat_lt, Some, None, Option, Ok, sym, ap, ◌∙◌, subst, arith, append-nil, length-append, Err, [], ◌∷◌, refl}
use Rattle.std.specs.Prelude.{Result, IsErr}
use Rattle.std.specs.Option.{option_or, option_map_or, MatchOption}
use Rattle.search.specs.declared.decision.Choice.{Choice}
use Rattle.sheet.specs.declared.reading.Reading.{Reading}
use Rattle.sheet.specs.declared.reading.Shown.{Shown}
use Rattle.sheet.specs.declared.reading.Shown.TheVariants.{Empty, Open, Chosen, Impossible}
use Rattle.bill.specs.Bill.{line_text, total_text, head_text}
use Rattle.bill.specs.Text.{put}
use Rattle.bill.specs.Whole.{lines_text}
use Rattle.bill.specs.Steps.{short, why_line, Puts, Added, BegunAs, LineAs, TotalAs}
use Rattle.bill.specs.declared.bill.Begun.{Begun}
use Rattle.bill.specs.declared.bill.Refused.{Refused}
use Rattle.bill.specs.declared.bill.Totalled.{Totalled}
use Rattle.bill.specs.declared.refusal.Refusal.{Refusal}
use Rattle.bill.specs.declared.refusal.Refusal.TheVariants.{Full}
use Rattle.totalled.specs.Written.{line_alone, whole_text, torn_text, why_none, Put, roomy, Stops, Left}
use Rattle.totalled.proofs.Puts.{At, at_first, at_more, same}

-- a bill of one line with no total stands on a page
record Lined (page page' : List ℕ) (place : ℕ) (x : Choice) (b : Begun) : Type 0 where
  pub at : At page page' (torn_text place x) b.written
  pub lines : b.lines ≡ 1
  pub steel : b.steel ≡ x.steel

-- the text of one line alone
alone : (place : ℕ) (x : Choice) → head_text ++ line_text place x ≡ torn_text place x
alone place x = ap (λ (u : List ℕ). head_text ++ u) (sym (append-nil (line_text place x)))

module _ (page page' : List ℕ) (place : ℕ) (b : Begun) (h : BegunAs page (Ok b) page') where
  begun : At page page' head_text b.written
  begun = at_first page page' head_text b.written h.0 h.1

  -- a line of a chosen cage is refused where the page is short alone
  line_short : (x : Choice) (o : Option Refusal) → why_line b page' place (Chosen x) ≡ o → short page' b.written (line_text place x) ≡ o
  line_short x o w = ap (λ (n : ℕ). cond (nat_lt n 64) (short page' b.written (line_text place x)) (Some Full)) (sym h.2) ∙ w

  lined : (page'' : List ℕ) (x : Choice) (b' : Begun) → why_line b page' place (Chosen x) ≡ None → Added b page' place (Chosen x) b' page''
      → Lined page page'' place x b'
  lined page'' x b' w a = record {
    at = subst (λ (u : List ℕ). At page page'' u b'.written) (alone place x)
        (at_more page page' head_text (line_text place x) b.written begun page'' b'.written (line_short x None w) a.0);
    lines = omega (arith, a.1, h.2);
    steel = omega (arith, a.2, h.3);
  }

-- the numbers of a total are those of the one line
whole : (place : ℕ) (x : Choice) (b : Begun) → b.lines ≡ 1 → b.steel ≡ x.steel → torn_text place x ++ total_text b.lines b.steel ≡ whole_text place x
whole place x b l s = ap (λ (u : List ℕ). torn_text place x ++ u) (rw (l, s) (ap (λ (n : ℕ). total_text 1 n) (omega arith)))

module _ (page page' : List ℕ) (place : ℕ) (x : Choice) (b : Begun) (l : Lined page page' place x b) where
  ended : (page'' : List ℕ) (v : ℕ) → short page' b.written (total_text b.lines b.steel) ≡ None → Puts page' b.written (total_text b.lines b.steel) v page''
      → At page page'' (whole_text place x) v
  ended page'' v h p =
      subst (λ (u : List ℕ). At page page'' u v) (whole place x b l.lines l.steel)
      (at_more page page' (torn_text place x) (total_text b.lines b.steel) b.written l.at page'' v h p)

puts : (page page' a : List ℕ) (w : ℕ) → At page page' a w → Puts page 0 a w page'
puts page page' a w at = (at.put, omega (arith, at.long))

-- both bills of a chosen cage, where nothing is refused
module _ (page next page' next' page'' next'' page''' : List ℕ) (place : ℕ) (b b' f f' : Begun) (t : Totalled)
    (h : BegunAs page (Ok b) page') (g : BegunAs next (Ok f) next') (d : TotalAs b' page'' (Ok t) page''') where
  pub both : (s : Shown) → why_line b page' place s ≡ None → Added b page' place s b' page''
      → why_line f next' place s ≡ None → Added f next' place s f' next''
      → (why_none page next place s ≡ None) × Put page next place s (t.written, f'.written) page''' next''
  both Empty w a v z = absurd a
  both Open w a v z = absurd a
  both (Impossible n) w a v z = absurd a
  both (Chosen x) w a v z =
      let e = ended page page'' place x b' (lined page page' place b h page'' x b' w a) page''' t.written d.0 d.1 in
      let l = lined next next' place f g next'' x f' v z in (
        ap (λ (o : Option Refusal). option_or o (short next 0 (torn_text place x))) e.room ∙ l.at.room,
        (puts page page''' (whole_text place x) t.written e, puts next next'' (torn_text place x) f'.written l.at),
      )

-- more text is refused where some of it is
refused_more : (page a b : List ℕ) (e : Refusal) → short page 0 a ≡ Some e → short page 0 (a ++ b) ≡ Some e
refused_more page a b e h = grind (arith, length-append a b)

-- the last text that has room, where the next has room, and where it has none
roomy_more : (page text a : List ℕ) (more : List (List ℕ)) → short page 0 a ≡ None → roomy page text (a ∷ more) ≡ roomy page a more
roomy_more page text a more h = ap (λ (o : Option Refusal). option_map_or (λ e. text) o (roomy page a more)) h

roomy_last : (page text a : List ℕ) (more : List (List ℕ)) (e : Refusal) → short page 0 a ≡ Some e → roomy page text (a ∷ more) ≡ text
roomy_last page text a more e h = ap (λ (o : Option Refusal). option_map_or (λ e. text) o (roomy page a more)) h

module _ (page next page' : List ℕ) (place : ℕ) where
  -- the next page stays where the first bill is not whole
  left_chosen : (x : Choice) (e : Refusal) (text : List ℕ) → short page 0 (whole_text place x) ≡ Some e → page' ≡ put page 0 text
      → roomy page [] (head_text ∷ torn_text place x ∷ whole_text place x ∷ []) ≡ text → Left page next place (Chosen x) page' next
  left_chosen x e text w p r = (
    p ∙ ap (put page 0) (sym r),
    subst (λ (o : Option Refusal). MatchOption o (Stops next (head_text ∷ []) next) (λ e. next ≡ next)) (sym w) refl,
  )

  pub no_head : (s : Shown) (e : Refusal) → BegunAs page (Err e) page' → Left page next place s page' next
  no_head Empty e h = (h.1 ∙ ap (put page 0) (sym (roomy_last page [] head_text [] e h.0)), refl)
  no_head Open e h = (h.1 ∙ ap (put page 0) (sym (roomy_last page [] head_text [] e h.0)), refl)
  no_head (Impossible n) e h = (h.1 ∙ ap (put page 0) (sym (roomy_last page [] head_text [] e h.0)), refl)
  no_head (Chosen x) e h =
      left_chosen x e []
      (refused_more page (torn_text place x) (total_text 1 (0 + x.steel)) e (refused_more page head_text (lines_text (line_alone place x)) e h.0)) h.1
      (roomy_last page [] head_text (torn_text place x ∷ whole_text place x ∷ []) e h.0)

-- the head alone, where the line after it is refused
head_stays : (page page' : List ℕ) (b : Begun) → BegunAs page (Ok b) page' → Stops page (head_text ∷ []) page'
head_stays page page' b h = h.1.0 ∙ ap (put page 0) (sym (roomy_more page [] head_text [] h.0))

module _ (page next page' : List ℕ) (place : ℕ) (b : Begun) (h : BegunAs page (Ok b) page') where
  no_line : (s : Shown) (e : Refusal) → why_line b page' place s ≡ Some e → Left page next place s page' next
  no_line Empty e w = (head_stays page page' b h, refl)
  no_line Open e w = (head_stays page page' b h, refl)
  no_line (Impossible n) e w = (head_stays page page' b h, refl)
  no_line (Chosen x) e w =
      let at = begun page page' place b h in
      let torn : short page 0 (torn_text place x) ≡ Some e =
      ap (short page 0) (sym (alone place x)) ∙ sym (same page page' head_text (line_text place x) b.written at) ∙ line_short page page' place b h x (Some e) w in
      left_chosen page next page' place x e head_text (refused_more page (torn_text place x) (total_text 1 (0 + x.steel)) e torn) at.put
      (roomy_more page [] head_text (torn_text place x ∷ whole_text place x ∷ []) at.room
      ∙ roomy_last page head_text (torn_text place x) (whole_text place x ∷ []) e torn)

  module _ (page'' : List ℕ) (b' : Begun) where
    -- the texts of the first bill have room up to its line
    roomy_torn : (x : Choice) → Lined page page'' place x b'
        → roomy page [] (head_text ∷ torn_text place x ∷ whole_text place x ∷ []) ≡ roomy page (torn_text place x) (whole_text place x ∷ [])
    roomy_torn x l =
        roomy_more page [] head_text (torn_text place x ∷ whole_text place x ∷ []) h.0
        ∙ roomy_more page head_text (torn_text place x) (whole_text place x ∷ []) l.at.room

    no_total : (s : Shown) (e : Refusal) → why_line b page' place s ≡ None → Added b page' place s b' page''
        → short page'' b'.written (total_text b'.lines b'.steel) ≡ Some e → Left page next place s page'' next
    no_total Empty e w a t = absurd a
    no_total Open e w a t = absurd a
    no_total (Impossible n) e w a t = absurd a
    no_total (Chosen x) e w a t =
        let l = lined page page' place b h page'' x b' w a in
        let none : short page 0 (whole_text place x) ≡ Some e =
        ap (short page 0) (sym (whole place x b' l.lines l.steel)) ∙ sym (same page page'' (torn_text place x) (total_text b'.lines b'.steel) b'.written l.at) ∙ t in
        left_chosen page next page'' place x e (torn_text place x) none l.at.put
        (roomy_torn x l ∙ roomy_last page (torn_text place x) (whole_text place x) [] e none)

    -- the first bill is whole, and the second has its head at most
    pub no_second : (page''' next' : List ℕ) (t : Totalled) (s : Shown) → why_line b page' place s ≡ None → Added b page' place s b' page''
        → TotalAs b' page'' (Ok t) page''' → Stops next (head_text ∷ []) next' → Left page next place s page''' next'
    no_second page''' next' t Empty w a d n = absurd a
    no_second page''' next' t Open w a d n = absurd a
    no_second page''' next' t (Impossible k) w a d n = absurd a
    no_second page''' next' t (Chosen x) w a d n =
        let l = lined page page' place b h page'' x b' w a in
        let at = ended page page'' place x b' l page''' t.written d.0 d.1 in (
          at.put ∙ ap (put page 0) (sym (roomy_torn x l ∙ roomy_more page (torn_text place x) (whole_text place x) [] at.room)),
          subst (λ (o : Option Refusal). MatchOption o (Stops next (head_text ∷ []) next') (λ e. next' ≡ next)) (sym at.room) n,
        )

pub no_next_head : (next next' : List ℕ) (e : Refusal) → BegunAs next (Err e) next' → Stops next (head_text ∷ []) next'
no_next_head next next' e h = h.1 ∙ ap (put next 0) (sym (roomy_last next [] head_text [] e h.0))

-- the same, of what a line or a total that is refused says
module _ (page next page' : List ℕ) (rd : Reading) (b : Begun) (h : BegunAs page (Ok b) page') where
  pub no_line_of : (r : Result Begun Refused) (page'' : List ℕ) → IsErr r → LineAs b page' rd r page'' → Left page next rd.place rd.shown page'' next
  no_line_of (Ok f) page'' i l = (cc)
  no_line_of (Err e) page'' i l = rw l.2 (no_line page next page' rd.place b h rd.shown e.refusal l.0)

  pub no_total_of : (page'' : List ℕ) (b' : Begun) → LineAs b page' rd (Ok b') page'' → (r : Result Totalled Refused) (page''' : List ℕ) → IsErr r
      → TotalAs b' page'' r page''' → Left page next rd.place rd.shown page''' next
  no_total_of page'' b' l (Ok t) page''' i d = (cc)
  no_total_of page'' b' l (Err e) page''' i d = rw d.2 (no_total page next page' rd.place b h page'' b' rd.shown e.refusal l.0 l.1 d.0)

pub no_next_line : (next next' : List ℕ) (rd : Reading) (f : Begun) → BegunAs next (Ok f) next' → (r : Result Begun Refused) (next'' : List ℕ) → IsErr r
    → LineAs f next' rd r next'' → Stops next (head_text ∷ []) next''
no_next_line next next' rd f g (Ok f') next'' i l = (cc)
no_next_line next next' rd f g (Err e) next'' i l = rw l.2 (head_stays next next' f g)
