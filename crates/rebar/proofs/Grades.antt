-- The ranges in which the grades lie.
use Rattle.std.proofs.Common.{◌≡◌, ℕ, true, arith}
use Rattle.std.proofs.lemmas.Bool.Decides.{nat_tests}
use Rattle.rebar.specs.Grades.{concrete_grades, steel_grades, shear_factors, is_concrete, is_steel, is_shear_factor}
use Rattle.rebar.specs.Ranges.{Within, ends}

pub concrete_range : (n : ℕ) → is_concrete n ≡ true → Within (ends concrete_grades) n
unfolding is_concrete
concrete_range n h = (grind (arith, nat_tests), grind (arith, nat_tests))

pub steel_range : (n : ℕ) → is_steel n ≡ true → Within (ends steel_grades) n
unfolding is_steel
steel_range n h = (grind (arith, nat_tests), grind (arith, nat_tests))

pub shear_factor_range : (n : ℕ) → is_shear_factor n ≡ true → Within (ends shear_factors) n
unfolding is_shear_factor
shear_factor_range n h = (grind (arith, nat_tests), grind (arith, nat_tests))
