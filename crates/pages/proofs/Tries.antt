-- The lines before a step, the step, and the total after it.
use Rattle.std.proofs.Common.{◌≡◌, inl, inr, ℕ, suc, ◌+◌, List, [], ◌++◌, length, min, take, drop, Ok, Err, sym, refl, ◌∙◌, subst, arith}
use Rattle.std.proofs.lemmas.List.{take-append-drop}
use Rattle.std.proofs.lemmas.Option.{none-some}
use Rattle.sheet.specs.declared.reading.Reading.{Reading}
use Rattle.pages.specs.declared.bills.Bill.{Bill}
use Rattle.pages.specs.declared.bills.Bill.TheVariants as bill
use Rattle.pages.specs.declared.bills.Stepped.{Stepped}
use Rattle.pages.specs.declared.case.Case.{Case}
use Rattle.pages.specs.declared.case.Step.TheVariants.{Begin, Line, Total}
use Rattle.pages.specs.Steps.{AddsHead, AddsLine, AddsTotal, Stands, Keeps, added}
use Rattle.pages.specs.Tries.{lines_of, HasMost, Filled, Tries}
use Rattle.pages.proofs.Steps.{line_on_front, total_on_front, head_on_front, head_stands}

-- one line more
pub filled_more : (n : ℕ) (rd : Reading) (start page page' : List ℕ) (b : Bill) (s : Stepped) → Filled n rd start b page → AddsLine b page rd s page'
    → Keeps b page (added b rd s.refusal) s.bill page' → Filled (n + 1) rd start s.bill page'
filled_more n rd start page page' bill.None s f h k =
    subst (λ (z : Stepped). Filled (n + 1) rd start z.bill page') (sym h.0)
    (record { count = f.count; within = omega (arith, f.within); lines = rw h.1 f.lines; most = f.most })
filled_more n rd start page page' (bill.Totalled t) s f h k = absurd f.most
filled_more n rd start page page' (bill.Begun b) s f (Ok b', (e, l)) k =
    elim f.most [
      | inl c ↦ subst (λ (z : Stepped). Keeps (bill.Begun b) page (added (bill.Begun b) rd z.refusal) z.bill page' → Filled (n + 1) rd start z.bill page') (sym e)
          (λ m. record { count = suc f.count; within = omega (arith, c); lines = m (lines_of f.count rd) start f.lines; most = inl (omega (arith, c)) }) k
      | inr w ↦ absurd (none-some w.0 (sym l.0 ∙ w.1))
    ]
filled_more n rd start page page' (bill.Begun b) s f (Err r, (e, l)) k =
    subst (λ (z : Stepped). Filled (n + 1) rd start z.bill page') (sym e)
    (record { count = f.count; within = omega (arith, f.within); lines = rw (l.2, l.1) f.lines; most = inr (r.refusal, rw (l.2, l.1) l.0) })

-- no line yet
pub begun_filled : (rd : Reading) (page page' : List ℕ) (s : Stepped) → AddsHead page s page' → Filled 0 rd page s.bill page'
begun_filled rd page page' s h =
    record { count = 0; within = omega arith; lines = head_stands page page' s h; most = begun_most h }
  where
    begun_most : AddsHead page s page' → HasMost 0 0 rd page s.bill page'
    begun_most (Ok b, (e, l)) = subst (λ (z : Stepped). HasMost 0 0 rd page z.bill page') (sym e) (inl refl)
    begun_most (Err f, (e, l)) = subst (λ (z : Stepped). HasMost 0 0 rd page z.bill page') (sym e) (refl, (f, l.0))

-- a step on the first n bytes of a page
module _ (case : Case) (page : List ℕ) (n : ℕ) (cut : n ≡ min case.page (length page)) (front' : List ℕ) (s : Stepped) where
  pub tries_begin : case.step ≡ Begin → AddsHead (take n page) s front' → Tries case page s (front' ++ drop n page)
  tries_begin e h = record {
    lines = [];
    step = rw (e, sym cut) (refl, (front', (h, refl)));
    bill = subst (λ (p : List ℕ). Stands [] p s.bill (front' ++ drop n page)) (take-append-drop n page)
        (head_on_front (take n page) front' (drop n page) s h);
  }

  module _ (mid : List ℕ) (b : Bill) (f : Filled case.lines case.chosen page b mid) where
    whole : Stands (lines_of f.count case.chosen) page b (take n mid ++ drop n mid)
    whole = subst (λ (p : List ℕ). Stands (lines_of f.count case.chosen) page b p) (sym (take-append-drop n mid)) f.lines

    pub tries_line : case.step ≡ Line → AddsLine b (take n mid) case.tried s front' → Tries case page s (front' ++ drop n mid)
    tries_line e h = record {
      lines = lines_of f.count case.chosen ++ added b case.tried s.refusal;
      step = rw (e, sym cut) (b, (mid, (f, (refl, (front', (h, refl))))));
      bill = line_on_front (lines_of f.count case.chosen) page (take n mid) front' (drop n mid) b case.tried s h whole;
    }

    pub tries_total : case.step ≡ Total → AddsTotal b (take n mid) s front' → Tries case page s (front' ++ drop n mid)
    tries_total e h = record {
      lines = lines_of f.count case.chosen;
      step = rw (e, sym cut) (b, (mid, (f, (refl, (front', (h, refl))))));
      bill = total_on_front (lines_of f.count case.chosen) page (take n mid) front' (drop n mid) b s h whole;
    }
