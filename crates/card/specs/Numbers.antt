-- Numbers on a card, the high byte first.
-- `map` is the card's map, `rest` the bytes after the map; places in `rest` count from 0.
use Rattle.std.specs.Prelude.{ℕ, ◌+◌, ◌*◌, cond, List, ℤ, None, Option, ◌==◌, slice_index}
use Rattle.std.proofs.Common.{to_z}
use Rattle.std.specs.Int.{w32}
use Rattle.loads.specs.Effects.{moderate}
use Rattle.card.specs.declared.fault.Fault.{Fault}
use Rattle.card.specs.declared.layout.Field.{Field}
use Rattle.card.specs.Faults.{range_fault}
use Rattle.card.specs.Layout.{effect_bytes, layout}
use Rattle.card.specs.Map.{stands, offset}

-- a number of one or two bytes
abbrev pub unsigned_at : List ℕ → ℕ → ℕ → ℕ
unsigned_at rest at bytes =
    cond (bytes == 1) (slice_index rest at)
    (slice_index rest at * 256 + slice_index rest (at + 1))

-- a number of four bytes in two's complement
abbrev pub signed_at : List ℕ → ℕ → ℤ
signed_at rest at =
    to_z w32
    (slice_index rest at * 16777216
    + slice_index rest (at + 1) * 65536
    + slice_index rest (at + 2) * 256
    + slice_index rest (at + 3))

-- where moment and shear at midspan begin, in a load case that begins at a place
abbrev pub mid_place : ℕ → ℕ
mid_place at = at + 2 * effect_bytes

-- where those at the right face begin
abbrev pub right_place : ℕ → ℕ
right_place at = at + 4 * effect_bytes

-- the number of a field that begins at a place
abbrev pub number_at : Field → List ℕ → ℕ → ℕ
number_at f rest at = unsigned_at rest at (layout f).bytes

-- the fault of a field's number, by the least cover
unfoldable pub number_fault : Field → ℕ → List ℕ → ℕ → Option Fault
number_fault f least rest at = range_fault ((layout f).allowed least (number_at f rest at)) at

-- what a field says: its number, or what its absence means
unfoldable pub value : Field → ℕ → List ℕ → ℕ
value f map rest =
    cond (stands map (layout f).bit)
    (number_at f rest (offset map (layout f).bit))
    (layout f).default

-- an absent field has no fault
unfoldable pub field_fault : Field → ℕ → ℕ → List ℕ → Option Fault
field_fault f least map rest =
    cond (stands map (layout f).bit)
    (number_fault f least rest (offset map (layout f).bit))
    None

-- the fault of a moment or a shear
unfoldable pub load_fault : List ℕ → ℕ → Option Fault
load_fault rest at = range_fault (moderate (signed_at rest at)) at
