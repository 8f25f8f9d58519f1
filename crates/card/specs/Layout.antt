-- How a card is laid out: its fields in the order of their bits.
use Rattle.std.specs.Prelude.{◌≡◌, ℕ, Bool, List, [], ◌∷◌, ◌++◌, map, slice_index, refl}
use Rattle.rebar.specs.Grades.{is_concrete, is_steel, is_shear_factor}
use Rattle.rebar.specs.Ranges.{Range, range, within, widths, heights, covers, aggregates, spans}
use Rattle.card.specs.declared.layout.Field.{Field}
use Rattle.card.specs.declared.layout.Field.TheVariants.{Width, Height, Cover, Concrete, Steel, Aggregate, Frame, Span, ShearFactor}
use Rattle.loads.specs.declared.loads.LoadCase.{LoadCase}
use Rattle.loads.specs.declared.loads.LoadCase.TheVariants.{Dead, Live, Wind, Earthquake}

-- how many bytes the map takes, at the beginning of a card
abbrev pub map_bytes : ℕ
map_bytes = 2

-- how many bytes a moment or a shear takes
abbrev pub effect_bytes : ℕ
effect_bytes = 4

-- how many numbers a load case has: a moment and a shear at three stations
abbrev pub case_numbers : ℕ
case_numbers = 6

-- a field of one number
pub record Row : Type 0 where
  -- its bit in the map
  pub bit : ℕ
  -- how many bytes it takes
  pub bytes : ℕ
  -- what its absence means; 0 for a required field, which is never absent
  pub default : ℕ
  -- whether it may hold a number: the least cover comes first, then the number
  pub allowed : ℕ → ℕ → Bool

-- the row of these
abbrev pub row : ℕ → ℕ → ℕ → (ℕ → ℕ → Bool) → Row
row bit bytes default allowed =
    record { bit = bit; bytes = bytes; default = default; allowed = allowed }

-- bit, bytes, default and allowed numbers of each field
abbrev pub layout : Field → Row
layout Width = row 0 2 0 (λ least n. within widths n)
layout Height = row 1 2 0 (λ least n. within heights n)
layout Cover = row 2 1 40 (λ least n. within (range least covers.most) n)
layout Concrete = row 3 2 0 (λ least n. is_concrete n)
layout Steel = row 4 2 4200 (λ least n. is_steel n)
layout Aggregate = row 5 1 20 (λ least n. within aggregates n)
layout Frame = row 6 1 0 (λ least n. within (range 0 1) n)
layout Span = row 7 2 0 (λ least n. within spans n)
layout ShearFactor = row 8 1 75 (λ least n. is_shear_factor n)

-- the bit of a load case, which means no load where it is absent
abbrev pub load_bit : LoadCase → ℕ
load_bit Dead = 9
load_bit Live = 10
load_bit Wind = 11
load_bit Earthquake = 12

-- how many fields there are, one for each bit from 0 on
abbrev pub field_count : ℕ
field_count = 13

-- how many bytes each field takes, by its bit
abbrev pub sizes : List ℕ
sizes =
    map (λ f. (layout f).bytes)
    (Width ∷ Height ∷ Cover ∷ Concrete ∷ Steel ∷ Aggregate ∷ Frame ∷ Span ∷ ShearFactor ∷ [])
    ++ (24 ∷ 24 ∷ 24 ∷ 24 ∷ [])

-- how many bytes the field of a bit takes
unfoldable pub size : ℕ → ℕ
size bit = slice_index sizes bit

-- the bytes of a field's row are those that the list of sizes has at its bit
pub field_size : (f : Field) → size (layout f).bit ≡ (layout f).bytes
unfolding size
field_size Width = refl
field_size Height = refl
field_size Cover = refl
field_size Concrete = refl
field_size Steel = refl
field_size Aggregate = refl
field_size Frame = refl
field_size Span = refl
field_size ShearFactor = refl

-- and so are the 24 bytes of a load case
pub case_size : (case : LoadCase) → size (load_bit case) ≡ 24
unfolding size
case_size Dead = refl
case_size Live = refl
case_size Wind = refl
case_size Earthquake = refl

-- the least cover, in mm
abbrev pub least_cover : ℕ
least_cover = covers.least

-- what the least cover may be raised to: not above the cover that an absent field means
abbrev pub least_covers : Range
least_covers = range covers.least (layout Cover).default
