-- The numbers of a face and of a cage: rows, depths, forces, shear strengths.
use Rattle.std.specs.Prelude.{ℕ, ◌+◌, ◌-◌, ◌*◌, ◌/◌, min, max, cond, nat_le}
use Rattle.rebar.specs.Marks.{bar_diameter, bar_area, face_area}
use Rattle.rebar.specs.Grades.{root_of}
use Rattle.rebar.specs.declared.section.Section.{Section}
use Rattle.rebar.specs.declared.materials.Materials.{Materials}
use Rattle.rebar.specs.declared.cage.Bars.{Bars}
use Rattle.rebar.specs.declared.cage.Ties.{Ties}
use Rattle.rebar.specs.declared.cage.Cage.{Cage}

-- the clear distance between the rows of a face, and between the two faces, in tenths of a mm
-- (R-033, Articles 115 and 117)
abbrev pub clear_distance : ℕ
clear_distance = 250

-- y, a hundredth of the grade of the steel
abbrev pub y_of : Materials → ℕ
y_of m = m.steel / 100

-- the clear gap between bars of diameter w, in hundredths of a mm (R-033, Article 115)
abbrev pub gap : Materials → ℕ → ℕ
gap m w = max (max (10 * w) 2500) (133 * m.aggregate)

-- the width inside the ties, in hundredths
abbrev pub room : Section → Ties → ℕ
room s t = 100 * s.width - 200 * s.cover - 20 * bar_diameter t.mark

-- the width of i bars in a row, in hundredths
abbrev pub row_length : Materials → Bars → ℕ → ℕ
row_length m x i = 10 * i * bar_diameter x.mark + (i - 1) * gap m (bar_diameter x.mark)

-- one row where all bars fit, else two
abbrev pub rows_of : Section → Materials → Ties → Bars → ℕ
rows_of s m t x = cond (nat_le (row_length m x x.number) (room s t)) 1 2

-- the bars of the outer row: all of them, or half rounded up
abbrev pub outer_of : Section → Materials → Ties → Bars → ℕ
outer_of s m t x = cond (nat_le (row_length m x x.number) (room s t)) x.number ((x.number + 1) / 2)

-- what the effective depth loses to a second row, in tenths, rounded up
abbrev pub second_row_loss : Bars → ℕ
second_row_loss x =
    ((bar_diameter x.mark + clear_distance) * (x.number / 2) + (x.number - 1)) / x.number

-- the effective depth of a face whose bars lie in k rows, in tenths of a mm
abbrev pub effective_depth : Section → Ties → Bars → ℕ → ℕ
effective_depth s t x k =
    10 * s.height - 10 * s.cover - bar_diameter t.mark - (bar_diameter x.mark + 1) / 2
    - (k - 1) * second_row_loss x

-- how deep k rows of a face's bars stand into the section, in tenths
abbrev pub rows_depth : Section → Ties → Bars → ℕ → ℕ
rows_depth s t x k =
    10 * s.cover + bar_diameter t.mark + bar_diameter x.mark * k + clear_distance * (k - 1)

-- d, the effective depth of a face
abbrev pub d_of : Section → Materials → Ties → Bars → ℕ
d_of s m t x = effective_depth s t x (rows_of s m t x)

-- how deep a face stands into the section
abbrev pub face_depth : Section → Materials → Ties → Bars → ℕ
face_depth s m t x = rows_depth s t x (rows_of s m t x)

-- q, the force of a face's bars at yield
abbrev pub q_of : Materials → Bars → ℕ
q_of m x = face_area x * y_of m

-- z, the smaller effective depth of a cage
abbrev pub z_of : Section → Materials → Cage → ℕ
z_of s m c = min (d_of s m c.ties c.bottom) (d_of s m c.ties c.top)

-- a shear strength of the concrete, with the factor k
abbrev pub concrete_shear : ℕ → Section → Materials → ℕ → ℕ
concrete_shear k s m z = k * root_of m.concrete * s.width * z / 100000000

-- vc, what the concrete bears
abbrev pub vc_of : Section → Materials → ℕ → ℕ
vc_of s m z = concrete_shear 53 s m z

-- vm, the most that a section with any ties bears
abbrev pub vm_of : Section → Materials → ℕ → ℕ
vm_of s m z = concrete_shear 265 s m z

-- vs, what the ties bear
abbrev pub vs_of : Materials → Ties → ℕ → ℕ
vs_of m t z = bar_area t.mark * y_of m * z / (5 * t.spacing)
