-- The grades that are made, and what the standards give for each.
use Rattle.std.specs.Prelude.{ℕ, suc, ◌+◌, ◌*◌, ◌<◌, ◌≤◌, Bool, false, cond, ◌||◌, List, [], ◌∷◌, ◌==◌, slice_index}

-- whether a number is one of a list
abbrev pub one_of : List ℕ → ℕ → Bool
one_of [] n = false
one_of (x ∷ xs) n = n == x || one_of xs n

-- the place of a number in a list, its length where it is absent
abbrev pub place_in : List ℕ → ℕ → ℕ
place_in [] n = 0
place_in (x ∷ xs) n = cond (n == x) 0 (suc (place_in xs n))

-- the grades of concrete, kg/cm²
abbrev pub concrete_grades : List ℕ
concrete_grades = 180 ∷ 210 ∷ 240 ∷ 280 ∷ 350 ∷ 420 ∷ []

-- whether there is concrete of a grade
unfoldable pub is_concrete : ℕ → Bool
is_concrete = one_of concrete_grades

-- the lower grade of steel, kg/cm²
abbrev pub lower_steel : ℕ
lower_steel = 2800

-- the grades of steel
abbrev pub steel_grades : List ℕ
steel_grades = lower_steel ∷ 4200 ∷ []

-- whether there is steel of a grade
unfoldable pub is_steel : ℕ → Bool
is_steel = one_of steel_grades

-- the strength reduction factors for shear, in hundredths
abbrev pub shear_factors : List ℕ
shear_factors = 60 ∷ 75 ∷ []

-- whether there is such a shear factor
unfoldable pub is_shear_factor : ℕ → Bool
is_shear_factor = one_of shear_factors

-- the place of a grade of concrete in the tables below
unfoldable pub grade_place : ℕ → ℕ
grade_place = place_in concrete_grades

-- r of each grade of concrete
abbrev pub roots : List ℕ
roots = 13416 ∷ 14491 ∷ 15491 ∷ 16733 ∷ 18708 ∷ 20493 ∷ []

-- β of each
abbrev pub block_factors : List ℕ
block_factors = 85 ∷ 85 ∷ 85 ∷ 85 ∷ 80 ∷ 75 ∷ []

-- ρ of each with the lower grade of steel (R-033, Table 7)
abbrev pub least_ratios_2800 : List ℕ
least_ratios_2800 = 29 ∷ 31 ∷ 33 ∷ 36 ∷ 40 ∷ 44 ∷ []

-- ρ of each with the other
abbrev pub least_ratios_4200 : List ℕ
least_ratios_4200 = 19 ∷ 21 ∷ 22 ∷ 24 ∷ 27 ∷ 29 ∷ []

-- r, the whole part of 1,000 times the square root of f
unfoldable pub root_of : ℕ → ℕ
root_of f = slice_index roots (grade_place f)

-- what makes r the root: its square is at most a million times f, and the next square is more
abbrev pub IsRoot : ℕ → ℕ → Type 0
IsRoot f r = (r * r ≤ 1000000 * f) × (1000000 * f < (r + 1) * (r + 1))

-- β, the depth of the stress block over that of the neutral axis, in hundredths
unfoldable pub block_factor_of : ℕ → ℕ
block_factor_of f = slice_index block_factors (grade_place f)

-- ρ, the least ratio of tension steel, in ten-thousandths
unfoldable pub least_ratio_of : ℕ → ℕ → ℕ
least_ratio_of f fy =
    slice_index (cond (fy == lower_steel) least_ratios_2800 least_ratios_4200) (grade_place f)
