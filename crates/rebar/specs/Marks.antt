-- Nominal sizes of bars by their mark, from the least main mark on (ASTM A615).
use Rattle.std.specs.Prelude.{ℕ, ◌-◌, ◌*◌, List, [], ◌∷◌, slice_index}
use Rattle.rebar.specs.Ranges.{main_marks}
use Rattle.rebar.specs.declared.cage.Bars.{Bars}

-- in tenths of a mm
abbrev pub diameters : List ℕ
diameters = 95 ∷ 127 ∷ 159 ∷ 191 ∷ 222 ∷ 254 ∷ 287 ∷ 323 ∷ 358 ∷ []

-- in mm²
abbrev pub areas : List ℕ
areas = 71 ∷ 129 ∷ 199 ∷ 284 ∷ 387 ∷ 510 ∷ 645 ∷ 819 ∷ 1006 ∷ []

-- the diameter of a bar, in tenths of a mm
unfoldable pub bar_diameter : ℕ → ℕ
bar_diameter mark = slice_index diameters (mark - main_marks.least)

-- the area of a bar, in mm²
unfoldable pub bar_area : ℕ → ℕ
bar_area mark = slice_index areas (mark - main_marks.least)

-- the steel area of a face, in mm²
unfoldable pub face_area : Bars → ℕ
face_area bars = bars.number * bar_area bars.mark
