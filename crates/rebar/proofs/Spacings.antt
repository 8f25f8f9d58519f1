-- The steel of ties does not rise with their spacing.
use Rattle.std.proofs.Common.{◌≡◌, ℕ, ◌+◌, ◌-◌, ◌*◌, ◌/◌, ◌<◌, ◌≤◌, arith}
use Rattle.std.proofs.Math.Nat.{lt-mul-div-succ}
use Rattle.std.proofs.lemmas.Nat.{div_below, mul-le}
use Rattle.rebar.specs.declared.beam.Beam.{Beam}
use Rattle.rebar.specs.declared.cage.Ties.{Ties}
use Rattle.rebar.specs.Marks.{bar_area}
use Rattle.rebar.specs.Steel.{hook, tie_length, tie_count, ties_steel}

-- a quotient rounded up does not rise with its divisor
fewer : (x a b : ℕ) → 0 < a → a ≤ b → (x + (b - 1)) / b ≤ (x + (a - 1)) / a
fewer x a b p le =
    let q : ℕ = (x + (a - 1)) / a in
    let over : x + (a - 1) < a * (q + 1) = lt-mul-div-succ (x + (a - 1)) p in
    let wider : q * a ≤ q * b = mul-le q a q b (omega arith) le in
    let under : x + (b - 1) < (q + 1) * b = grind (arith, over, wider) in
    omega (arith, div_below (x + (b - 1)) b (q + 1) (omega arith) under)

same_length : (beam : Beam) (a b : Ties) → a.mark ≡ b.mark → tie_length beam a ≡ tie_length beam b
unfolding tie_length hook
same_length beam a b e = cc

fewer_ties : (beam : Beam) (a b : Ties) → a.spacing ≤ b.spacing → tie_count beam b ≤ tie_count beam a
unfolding tie_count
fewer_ties beam a b le = omega (arith, fewer (beam.member.span - 100) a.spacing b.spacing (omega arith) le)

pub lighter_ties : (beam : Beam) (a b : Ties) → a.mark ≡ b.mark → a.spacing ≤ b.spacing → ties_steel beam b ≤ ties_steel beam a
unfolding ties_steel
lighter_ties beam a b e le =
    let length : tie_length beam b ≤ tie_length beam a = omega (arith, same_length beam a b e) in
    let area : bar_area b.mark ≤ bar_area a.mark = rw e (omega arith) in
    mul-le _ _ _ _ (mul-le _ _ _ _ (fewer_ties beam a b le) length) area
