-- The numbers of a card in byte order: a bad value is reported at the first of them that is out of
-- range.
use Rattle.std.specs.Prelude.{◌≡◌, ℕ, ◌+◌, Bool, true, false, cond, ◌⊎◌, List, [], ◌∷◌, ◌++◌, Some, Ok, Err, Result}
use Rattle.std.specs.List.{AllByRecursion}
use Rattle.loads.specs.Effects.{moderate}
use Rattle.rebar.specs.declared.beam.Beam.{Beam}
use Rattle.card.specs.declared.fault.Fault.{Fault}
use Rattle.card.specs.declared.fault.FaultKind.TheVariants.{OutOfRange}
use Rattle.card.specs.declared.layout.Field.{Field}
use Rattle.card.specs.declared.layout.Field.TheVariants.{Width, Height, Cover, Concrete, Steel, Aggregate, Frame, Span, ShearFactor}
use Rattle.loads.specs.declared.loads.LoadCase.{LoadCase}
use Rattle.loads.specs.declared.loads.LoadCase.TheVariants.{Dead, Live, Wind, Earthquake}
use Rattle.card.specs.Card.{shape_fault, map_of, rest_of}
use Rattle.card.specs.Faults.{fault}
use Rattle.card.specs.Layout.{map_bytes, effect_bytes, layout, load_bit, least_cover}
use Rattle.card.specs.Map.{stands, offset}
use Rattle.card.specs.Numbers.{number_at, signed_at, mid_place, right_place}

-- a number that stands on the card: its first byte, and whether it is in range
pub record Number : Type 0 where
  pub place : ℕ
  pub fine : Bool

-- the number of a field, none where the field is absent
unfoldable pub of_field : Field → ℕ → ℕ → List ℕ → List Number
of_field f least map rest =
    cond (stands map (layout f).bit)
    (record {
      place = map_bytes + offset map (layout f).bit;
      fine = (layout f).allowed least (number_at f rest (offset map (layout f).bit));
    } ∷ [])
    []

-- a moment or a shear that begins at a place of the rest
abbrev pub load_at : List ℕ → ℕ → Number
load_at rest at = record { place = map_bytes + at; fine = moderate (signed_at rest at) }

-- a moment and a shear
abbrev pub force_at : List ℕ → ℕ → List Number
force_at rest at = load_at rest at ∷ load_at rest (at + effect_bytes) ∷ []

-- those of left face, midspan and right face
abbrev pub forces_at : List ℕ → ℕ → List Number
forces_at rest at =
    force_at rest at ++ (force_at rest (mid_place at) ++ force_at rest (right_place at))

-- the six numbers of a load case, none where the case is absent
unfoldable pub of_case : LoadCase → ℕ → List ℕ → List Number
of_case case map rest =
    cond (stands map (load_bit case)) (forces_at rest (offset map (load_bit case))) []

-- all numbers that stand on a card
abbrev pub numbers : ℕ → ℕ → List ℕ → List Number
numbers least map rest =
    (of_field Width least map rest
    ++ (of_field Height least map rest ++ of_field Cover least map rest))
    ++ ((of_field Concrete least map rest
    ++ (of_field Steel least map rest ++ of_field Aggregate least map rest))
    ++ ((of_field Frame least map rest
    ++ (of_field Span least map rest ++ of_field ShearFactor least map rest))
    ++ (of_case Dead map rest
    ++ (of_case Live map rest ++ (of_case Wind map rest ++ of_case Earthquake map rest)))))

-- every number is in range
abbrev pub AllFine : List Number → Type 0
AllFine ns = AllByRecursion (λ n. n.fine ≡ true) ns

-- a fault that names the first number out of range
pub record FirstBad (ns : List Number) (e : Fault) : Type 0 where
  pub before : List Number
  pub bad : Number
  pub after : List Number
  pub split : ns ≡ before ++ bad ∷ after
  pub earlier : AllFine before
  pub wrong : bad.fine ≡ false
  pub named : e ≡ fault OutOfRange bad.place

-- a card that is taken has every number in range; one that is refused has a fault of map or length,
-- or a first number out of range
abbrev pub Judges : List ℕ → Result Beam Fault → Type 0
Judges card (Ok beam) = AllFine (numbers least_cover (map_of card) (rest_of card))
Judges card (Err e) =
    (shape_fault card ≡ Some e) ⊎ FirstBad (numbers least_cover (map_of card) (rest_of card)) e
