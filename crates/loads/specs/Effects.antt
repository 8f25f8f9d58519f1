-- The effects of loads.
use Rattle.std.specs.Prelude.{ℕ, ℤ, pos, neg_ℤ, ◌≤ℤ◌, Bool, ◌&&◌, int_le}

-- the greatest moment in kg·m, and the greatest shear in kg, of a load case at a station
abbrev pub greatest_effect : ℕ
greatest_effect = 100000

-- a moment or a shear is from -100,000 to 100,000
abbrev pub Moderate : ℤ → Type 0
Moderate z = (neg_ℤ (pos greatest_effect) ≤ℤ z) × (z ≤ℤ pos greatest_effect)

-- whether it is
abbrev pub moderate : ℤ → Bool
moderate z = int_le (neg_ℤ (pos greatest_effect)) z && int_le z (pos greatest_effect)
