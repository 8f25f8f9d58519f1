-- With main mark 11 alone article 4, or one before it, refuses every cage of the reference beam: the strain at two bars or more.
use Rattle.std.proofs.Common.{◌≡◌, ◌≢◌, ℕ, ◌-◌, ◌*◌, ◌≤◌, Bool, true, false, cond, ◌&&◌, leb, T, inl, ⊎_elim, replicate, get_or, set, drop, refl, lit≤, arith}
use Rattle.std.proofs.lemmas.Bool.{cases_eq}
use Rattle.std.proofs.lemmas.Bool.Decides.{nat_tests}
use Rattle.std.proofs.lemmas.List.{get_or-set_other, get_or-replicate}
use Rattle.rebar.specs.Marks.{bar_diameter, bar_area, face_area}
use Rattle.rebar.specs.Grades.{grade_place, root_of, block_factor_of, least_ratio_of}
use Rattle.rebar.specs.declared.cage.Bars.{Bars}
use Rattle.rebar.specs.declared.cage.Ties.{Ties}
use Rattle.rebar.specs.declared.cage.Cage.{Cage}
use Rattle.books.specs.Rules.{test, over, first_broken}
use Rattle.books.specs.Numbers.{d_of, q_of, face_depth}
use Rattle.books.specs.declared.frame.Frame.{Frame}
use Rattle.books.specs.declared.general.General.{General}
use Rattle.books.specs.Pile.{framed_answer}
use Rattle.books.specs.General.{outer_row_fits, faces_apart, ductile, articles_for, general_answer}
use Rattle.books.specs.Frame.{frame_answer}
use Rattle.stock.specs.Kinds.{known}
use Rattle.stock.specs.declared.kind.Kind.TheVariants.{Main}
use Rattle.stock.specs.Stock.{has}
use Rattle.search.specs.declared.decision.Decision.TheVariants.{Impossible}
use Rattle.search.specs.Lightest.{Lightest}
use Rattle.worked.specs.Reference.{reference_section, reference_materials, reference_beam}
use Rattle.worked.specs.Worked.{bars, ties_at, cage, main_11_tie_3}

later : (a b : Bool) → T (a && b) → b ≡ true
later true true t = refl
later true false t = absurd t
later false b t = absurd t

only_11 : (mark : ℕ) → 3 ≤ mark → mark ≤ 11 → T (has main_11_tie_3 Main mark) → mark ≡ 11
unfolding has
only_11 mark low high t = ⊎_elim (λ e. e) (λ ne. absurd (clash ne)) (cases_eq mark 11)
  where
    clash : mark ≢ 11 → ⊥
    clash ne =
        let inside : get_or (set (replicate 9 false) 8 true) (mark - 3) false ≡ true = later (known Main mark) _ t in
        let other = get_or-set_other (replicate 9 false) 8 (mark - 3) true false (omega arith) in
        let out = get_or-replicate 9 (mark - 3) false false (omega arith) in
        cc

-- 16,000,000 q passes the right side where d is below the height less the cover
too_much : (q d : ℕ) → 84504 ≤ q → d ≤ 4600 → leb (16000000 * q) (51 * 85 * 210 * 300 * d) ≡ false
too_much q d strong shallow = grind (arith, nat_tests)

force : (x : Bars) → x.mark ≡ 11 → q_of reference_materials x ≡ x.number * 1006 * 42
unfolding bar_area face_area
force x e = rw e

depth : (t : Ties) (x : Bars) → d_of reference_section reference_materials t x ≤ 4600
depth t x = omega arith

strained : (t : Ties) (x : Bars) → x.mark ≡ 11
    → test (ductile reference_section reference_materials (q_of reference_materials x) (d_of reference_section reference_materials t x)) ≡ false
unfolding grade_place block_factor_of
strained t x e =
    let f = force x e in
    let some = x.counted.0 in
    too_much (q_of reference_materials x) (d_of reference_section reference_materials t x) (omega arith) (depth t x)

-- an answer that comes from the fourth article of a list at the latest
by_4 : (a b c d : Bool) (rest own : ℕ) → d ≡ false
    → let r = over (cond a (cond b (cond c (cond d rest 4) 3) 2) 1) own in (r ≡ 0 → ⊥) × (r ≤ 4)
by_4 true true true true rest own e = absurd (cc)
by_4 true true true false rest own e = (λ z. absurd (omega (arith, z)), lit≤ tt)
by_4 true true false d rest own e = (λ z. absurd (omega (arith, z)), lit≤ tt)
by_4 true false c d rest own e = (λ z. absurd (omega (arith, z)), lit≤ tt)
by_4 false b c d rest own e = (λ z. absurd (omega (arith, z)), lit≤ tt)

refused : (pile : Frame General) (in_frame : Bool) (d : Cage) → d.bottom.mark ≡ 11
    → (framed_answer pile (reference_beam in_frame) d ≡ 0 → ⊥) × (framed_answer pile (reference_beam in_frame) d ≤ 4)
unfolding general_answer articles_for
refused pile in_frame d e =
    let s = reference_section in
    let m = reference_materials in
    by_4 (test (outer_row_fits s m d.ties d.bottom)) (test (outer_row_fits s m d.ties d.top))
    (test (faces_apart s (face_depth s m d.ties d.bottom) (face_depth s m d.ties d.top))) _
    (first_broken (drop 4 (articles_for (reference_beam in_frame) d))) (frame_answer (reference_beam in_frame) d)
    (strained d.ties d.bottom e)

pub impossible : (pile : Frame General) (in_frame : Bool) → Lightest (framed_answer pile) (has main_11_tie_3) (reference_beam in_frame) (Impossible 4)
unfolding has general_answer articles_for bar_diameter bar_area face_area grade_place root_of block_factor_of least_ratio_of
impossible pile in_frame =
    let pair : Bars = bars 2 11 tt tt tt tt in (
      λ d stocked. refused pile in_frame d (only_11 d.bottom.mark d.bottom.marked.0 d.bottom.marked.1 stocked.0),
      inl (cage pair pair (ties_at 200 tt tt refl), ((tt, tt, tt), refl)),
    )
