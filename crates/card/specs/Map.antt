-- The map of a card: which fields stand, and where each begins.
use Rattle.std.specs.Prelude.{◌≡◌, ℕ, zero, suc, ◌+◌, ◌/◌, ◌%◌, ◌^◌, ◌≤◌, Bool, true, cond, ◌&&◌, List, [], ◌∷◌, ◌==◌, nat_le}
use Rattle.card.specs.declared.layout.Field.TheVariants.{Width, Height, Concrete, Span}
use Rattle.loads.specs.declared.loads.LoadCase.TheVariants.{Dead}
use Rattle.card.specs.Layout.{map_bytes, field_count, layout, load_bit, size}

-- whether a bit of the map is set; bit 0 is the lowest
unfoldable pub stands : ℕ → ℕ → Bool
stands map k = map / 2 ^ k % 2 == 1

-- the bytes of the fields below a bit that stand
unfoldable pub offset : ℕ → ℕ → ℕ
offset map zero = 0
offset map (suc k) = offset map k + cond (stands map k) (size k) 0

-- how many bytes a card with this map has: those of the map, and those of the fields that stand
abbrev pub asked_bytes : ℕ → ℕ
asked_bytes map = map_bytes + offset map field_count

-- whether a bit is set that no field has
abbrev pub unknown : ℕ → Bool
unknown map = nat_le (2 ^ field_count) map

-- the bits of the fields that may not be absent: 0, 1, 3, 7 and 9
abbrev pub required_bits : List ℕ
required_bits =
    (layout Width).bit
    ∷ (layout Height).bit
    ∷ (layout Concrete).bit
    ∷ (layout Span).bit
    ∷ load_bit Dead
    ∷ []

-- whether all of some bits are set
abbrev pub all_stand : ℕ → List ℕ → Bool
all_stand map [] = true
all_stand map (bit ∷ bits) = stands map bit && all_stand map bits

-- whether every required field stands
unfoldable pub required : ℕ → Bool
required map = all_stand map required_bits

-- a field that stands begins at a place, and lies there whole
pub record Begins (map bit bytes at : ℕ) : Type 0 where
  pub present : stands map bit ≡ true
  pub place : at ≡ offset map bit
  pub whole : at + bytes ≤ offset map field_count
