-- The numbers of places.
use Rattle.std.proofs.Common.{◌≡◌, ℕ, ◌<◌, ◌≤◌, true, false, nat_lt, arith}
use Rattle.std.proofs.lemmas.Bool.Decides.{nat_tests}
use Rattle.sheet.specs.Size.{last_place}

-- there is a place with this number
pub there : (p : ℕ) → p ≤ last_place → nat_lt last_place p ≡ false
there p h = grind (arith, nat_tests)

-- there is none
pub past : (p : ℕ) → last_place < p → nat_lt last_place p ≡ true
past p h = grind (arith, nat_tests)
