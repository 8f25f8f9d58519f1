-- The numbers that the sizes of beams and cages may have.
use Rattle.std.specs.Prelude.{ℕ, ◌+◌, ◌-◌, ◌/◌, ◌≤◌, Bool, ◌&&◌, List, length, nat_le, slice_index}

-- the numbers from a least to a greatest one, both included
pub record Range : Type 0 where
  pub least : ℕ
  pub most : ℕ

-- the range of these ends
abbrev pub range : ℕ → ℕ → Range
range least most = record { least = least; most = most }

-- a number lies in a range
abbrev pub Within : Range → ℕ → Type 0
Within r n = (r.least ≤ n) × (n ≤ r.most)

-- whether it does
abbrev pub within : Range → ℕ → Bool
within r n = nat_le r.least n && nat_le n r.most

-- how many numbers lie in a range
abbrev pub count : Range → ℕ
count r = r.most - r.least + 1

-- from the first to the last of some numbers that rise
abbrev pub ends : List ℕ → Range
ends ns = range (slice_index ns 0) (slice_index ns (length ns - 1))

-- of the width of a section, in mm
abbrev pub widths : Range
widths = range 250 800

-- of its height, in mm
abbrev pub heights : Range
heights = range 250 900

-- of the cover to the tie, in mm
abbrev pub covers : Range
covers = range 20 75

-- of the largest aggregate, in mm
abbrev pub aggregates : Range
aggregates = range 10 40

-- of a clear span, in mm
abbrev pub spans : Range
spans = range 1000 12000

-- of the marks of main bars
abbrev pub main_marks : Range
main_marks = range 3 11

-- of the marks of ties
abbrev pub tie_marks : Range
tie_marks = range 3 5

-- of the bars of a face
abbrev pub bar_numbers : Range
bar_numbers = range 2 12

-- of the spacing of ties, in mm: a whole number of steps
abbrev pub spacings : Range
spacings = range 50 600

-- how far one spacing is from the next, in mm
abbrev pub spacing_step : ℕ
spacing_step = 25

-- how many spacings there are
abbrev pub spacing_count : ℕ
spacing_count = (spacings.most - spacings.least) / spacing_step + 1
