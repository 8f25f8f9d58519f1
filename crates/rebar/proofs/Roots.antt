-- The root of every grade, by one test over the table.
use Rattle.std.proofs.Common.{◌≡◌, ℕ, suc, ◌+◌, ◌*◌, ◌<◌, ◌≤◌, Bool, true, false, cond, ◌&&◌, ◌||◌, T, eqb, ltb, leb, List, [], ◌∷◌, get_or, sym, refl, subst, arith}
use Rattle.std.proofs.lemmas.Bool.Decides.{nat_tests}
use Rattle.rebar.specs.Grades.{one_of, place_in, concrete_grades, is_concrete, grade_place, roots, root_of, IsRoot}
use Rattle.rebar.proofs.Table.{at}

-- what stands in a list stands there at its place
at_its_place : (xs : List ℕ) (n : ℕ) → one_of xs n ≡ true → get_or xs (place_in xs n) 0 ≡ n
at_its_place [] n h = cc
at_its_place (x ∷ xs) n h = go (at_its_place xs n) (eqb n x) refl h
  where
    go : (one_of xs n ≡ true → get_or xs (place_in xs n) 0 ≡ n) → (t : Bool) → eqb n x ≡ t → (t || one_of xs n) ≡ true
        → get_or (x ∷ xs) (cond t 0 (suc (place_in xs n))) 0 ≡ n
    go later true e g = grind (arith, nat_tests)
    go later false e g = later g

-- whether r is the root of the grade at place k
abbrev fits : ℕ → ℕ → Bool
fits k r = leb (r * r) (1000000 * get_or concrete_grades k 0) && ltb (1000000 * get_or concrete_grades k 0) ((r + 1) * (r + 1))

both : (a b c d : ℕ) → T (leb a b && ltb c d) → (a ≤ b) × (c < d)
both a b c d h = (grind (arith, nat_tests), grind (arith, nat_tests))

placed : (f : ℕ) → is_concrete f ≡ true → grade_place f < 6
unfolding is_concrete grade_place
placed f made = grind (arith, nat_tests)

root_fits : (f r : ℕ) → is_concrete f ≡ true → r ≡ root_of f → IsRoot f r
unfolding is_concrete grade_place root_of
root_fits f r made is =
    let k = place_in concrete_grades f in
    let here = both _ _ _ _ (at fits roots tt k (placed f made)) in
    let h = subst (λ (x : ℕ). IsRoot x (get_or roots k 0)) (at_its_place concrete_grades f made) here in
    subst (λ (x : ℕ). IsRoot f x) (sym is) h

pub root_below : (f r : ℕ) → is_concrete f ≡ true → r ≡ root_of f → r * r ≤ 1000000 * f
root_below f r made is = (root_fits f r made is).0

pub root_close : (f r : ℕ) → is_concrete f ≡ true → r ≡ root_of f → 1000000 * f < (r + 1) * (r + 1)
root_close f r made is = (root_fits f r made is).1
