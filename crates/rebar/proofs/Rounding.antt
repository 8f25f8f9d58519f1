-- A quotient rounded up, as std's `div_ceil` gives it and as the formulas write it.
use Rattle.std.proofs.Common.{◌≡◌, ℕ, ◌+◌, ◌-◌, ◌/◌, ◌%◌, ◌<◌, min, sym, arith}
use Rattle.std.proofs.Math.Nat.{div-eq_of_lt-le}
use Rattle.std.proofs.lemmas.Grind.{div_ceil_times}

pub rounded_up : (a b : ℕ) → 0 < b → a / b + min 1 (a % b) ≡ (a + (b - 1)) / b
rounded_up a b p =
    let t = div_ceil_times a b p in
    sym (div-eq_of_lt-le b (omega (arith, t.0, t.1)) (grind (arith, t.0, t.1)))
