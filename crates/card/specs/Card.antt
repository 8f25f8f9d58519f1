-- The whole card: its fault, or the beam that it describes.
use Rattle.std.specs.Prelude.{◌≡◌, ℕ, ◌+◌, ◌*◌, true, cond, not, List, length, drop, Some, None, Err, Ok, Option, Result, nat_lt, slice_index}
use Rattle.rebar.specs.declared.beam.Beam.{Beam}
use Rattle.card.specs.declared.fault.Fault.{Fault}
use Rattle.card.specs.declared.fault.FaultKind.TheVariants.{BytesMissing, UnknownBit, RequiredBitAbsent, BytesOver}
use Rattle.card.specs.Faults.{fault, first, Answers}
use Rattle.card.specs.Layout.{map_bytes, least_cover}
use Rattle.card.specs.Map.{unknown, required, asked_bytes}
use Rattle.card.specs.Parts.{values_fault, SectionIs, MaterialsIs, MemberIs, LoadsIs}

-- the map is the first two bytes, the high byte first
abbrev pub map_of : List ℕ → ℕ
map_of card = slice_index card 0 * 256 + slice_index card 1

-- the bytes after the map
abbrev pub rest_of : List ℕ → List ℕ
rest_of card = drop map_bytes card

-- the fault of a map, or of the length of a card with this map, in the order in which they are
-- judged
unfoldable pub map_fault : ℕ → ℕ → Option Fault
map_fault map bytes =
    cond (unknown map) (Some (fault UnknownBit 0))
    (cond (not (required map)) (Some (fault RequiredBitAbsent 0))
    (cond (nat_lt bytes (asked_bytes map)) (Some (fault BytesMissing bytes))
    (cond (nat_lt (asked_bytes map) bytes) (Some (fault BytesOver (asked_bytes map)))
    None)))

-- a map and a length without fault
abbrev pub Shaped : ℕ → ℕ → Type 0
Shaped map bytes = (required map ≡ true) × (bytes ≡ asked_bytes map)

-- the fault of a card's map or length
abbrev pub shape_fault : List ℕ → Option Fault
shape_fault card =
    cond (nat_lt (length card) map_bytes) (Some (fault BytesMissing (length card)))
    (map_fault (map_of card) (length card))

-- the first fault of a card where covers below `least` are refused: no number is judged before map
-- and length are
abbrev pub fault_by_cover : ℕ → List ℕ → Option Fault
fault_by_cover least card =
    first (shape_fault card) (values_fault least (map_of card) (rest_of card))

-- the first fault of a card
unfoldable pub card_fault : List ℕ → Option Fault
card_fault card = fault_by_cover least_cover card

-- the beam that a card without fault describes
pub record BeamIs (map : ℕ) (rest : List ℕ) (b : Beam) : Type 0 where
  pub section : SectionIs map rest b.section
  pub materials : MaterialsIs map rest b.materials
  pub member : MemberIs map rest b.member
  pub loads : LoadsIs map rest b.loads

-- the answer to a card where covers below `least` are refused
abbrev pub CardByCover : ℕ → List ℕ → Result Beam Fault → Type 0
CardByCover least card = Answers (fault_by_cover least card) (BeamIs (map_of card) (rest_of card))

-- the answer to a card: its first fault, or its beam
abbrev pub CardAs : List ℕ → Result Beam Fault → Type 0
CardAs card = Answers (card_fault card) (BeamIs (map_of card) (rest_of card))

-- no other beam is described by a card that is read as one
abbrev pub OfNoOther : List ℕ → Result Beam Fault → Type 0
OfNoOther card (Ok b) = (c : Beam) → CardAs card (Ok c) → c ≡ b
OfNoOther card (Err e) = Unit {0}
