-- When a card is taken as a beam: what its map, its length and its numbers have to be.
use Rattle.std.specs.Prelude.{◌≡◌, ℕ, ◌+◌, ◌*◌, ◌<◌, ◌≤◌, true, false, List, length, IsOk, ◌↔◌, Result}
use Rattle.std.specs.List.{AllByRecursion}
use Rattle.loads.specs.Effects.{Moderate}
use Rattle.rebar.specs.declared.beam.Beam.{Beam}
use Rattle.card.specs.declared.fault.Fault.{Fault}
use Rattle.card.specs.declared.layout.Field.{Field}
use Rattle.loads.specs.declared.loads.LoadCase.{LoadCase}
use Rattle.card.specs.Card.{map_of, rest_of}
use Rattle.card.specs.Layout.{map_bytes, effect_bytes, case_numbers, field_count, layout, load_bit, least_cover}
use Rattle.card.specs.Map.{stands, required_bits, offset, asked_bytes}
use Rattle.card.specs.Numbers.{number_at, signed_at}

-- each field of one number that stands holds a number that it may hold
abbrev pub FieldsFine : ℕ → List ℕ → Type 0
FieldsFine map rest =
    (f : Field) → stands map (layout f).bit ≡ true
    → (layout f).allowed least_cover (number_at f rest (offset map (layout f).bit)) ≡ true

-- each load case that stands holds six numbers, moment and shear at the three stations, none beyond
-- the greatest
abbrev pub LoadsFine : ℕ → List ℕ → Type 0
LoadsFine map rest =
    (case : LoadCase) → stands map (load_bit case) ≡ true
    → (k : ℕ) → k < case_numbers
    → Moderate (signed_at rest (offset map (load_bit case) + effect_bytes * k))

-- a card that is taken
pub record WellFormed (card : List ℕ) : Type 0 where
  -- the bytes of the map are there
  pub mapped : map_bytes ≤ length card
  -- no bit is set but those of fields
  pub known : (bit : ℕ) → field_count ≤ bit → stands (map_of card) bit ≡ false
  -- width, height, concrete, span and dead load stand
  pub required : AllByRecursion (λ bit. stands (map_of card) bit ≡ true) required_bits
  -- it is as long as its map asks for
  pub whole : length card ≡ asked_bytes (map_of card)
  pub fields : FieldsFine (map_of card) (rest_of card)
  pub loads : LoadsFine (map_of card) (rest_of card)

-- a card is read as a beam where it is well formed, and else refused
abbrev pub TakenExactly : List ℕ → Result Beam Fault → Type 0
TakenExactly card r = IsOk r ↔ WellFormed card
