-- Bounds of products, from those of their factors.
use Rattle.std.proofs.Common.{ℕ, ◌*◌, ◌≤◌}
use Rattle.std.proofs.lemmas.Nat.{mul-le}

-- the area of a face
pub face : (number area : ℕ) → number ≤ 12 → area ≤ 1006 → number * area ≤ 12072
face number area h k = mul-le number area 12 1006 h k

-- the steel of the bars of a face
pub bars : (span area : ℕ) → span ≤ 12000 → area ≤ 12072 → span * area ≤ 144864000
bars span area h k = mul-le span area 12000 12072 h k

-- the steel of ties
pub ties : (count length area : ℕ) → count ≤ 239 → length ≤ 3432 → area ≤ 199 → count * length * area ≤ 163229352
ties count length area h k l = mul-le (count * length) area 820248 199 (mul-le count length 239 3432 h k) l
