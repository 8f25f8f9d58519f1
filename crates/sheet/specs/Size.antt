-- How many places a sheet has, and how far it counts.
use Rattle.std.specs.Prelude.{ℕ}

-- places are numbered from 0 to this
abbrev pub last_place : ℕ
last_place = 63

-- how many there are
abbrev pub place_count : ℕ
place_count = 64

-- the greatest number of a count
abbrev pub greatest_count : ℕ
greatest_count = 4294967295
