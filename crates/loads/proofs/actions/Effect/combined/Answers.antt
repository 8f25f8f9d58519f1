use Rattle.std.proofs.Common.{◌≡◌, List, ◌∷◌, ℤ, refl, arith}
use Rattle.std.proofs.lemmas.Int.{ints}
use Rattle.loads.specs.Combinations.{rows}
use Rattle.loads.proofs.actions.Effect.combined.Goals as goal

cons : {x y : ℤ} {xs ys : List ℤ} → x ≡ y → xs ≡ ys → x ∷ xs ≡ y ∷ ys
cons p q = λ i. p i ∷ q i

pub returns : goal.returns
unfolding rows
returns c =
    cons (omega (arith, ints)) (cons (omega (arith, ints)) (cons (omega (arith, ints)) (cons (omega (arith, ints))
    (cons (omega (arith, ints)) (cons (omega (arith, ints)) (cons (omega (arith, ints)) (cons (omega (arith, ints))
    (cons (omega (arith, ints)) (cons (omega (arith, ints)) refl)))))))))
