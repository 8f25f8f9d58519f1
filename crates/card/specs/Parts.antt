-- The parts of the beam on a card: the first bad number of each, and what it is where there is
-- none.
-- `least` is the least cover, `map` the card's map, `rest` the bytes after the map.
use Rattle.std.specs.Prelude.{◌≡◌, ℕ, ◌+◌, cond, List, ℤ, pos, None, Option, ◌==◌}
use Rattle.loads.specs.declared.loads.Force.{Force}
use Rattle.loads.specs.declared.loads.Case.{Case}
use Rattle.loads.specs.declared.loads.Loads.{Loads}
use Rattle.rebar.specs.declared.section.Section.{Section}
use Rattle.rebar.specs.declared.materials.Materials.{Materials}
use Rattle.rebar.specs.declared.member.Member.{Member}
use Rattle.card.specs.declared.fault.Fault.{Fault}
use Rattle.card.specs.declared.layout.Field.TheVariants.{Width, Height, Cover, Concrete, Steel, Aggregate, Frame, Span, ShearFactor}
use Rattle.loads.specs.declared.loads.LoadCase.{LoadCase}
use Rattle.loads.specs.declared.loads.LoadCase.TheVariants.{Dead, Live, Wind, Earthquake}
use Rattle.card.specs.Faults.{first}
use Rattle.card.specs.Layout.{effect_bytes, load_bit}
use Rattle.card.specs.Map.{stands, offset}
use Rattle.card.specs.Numbers.{mid_place, right_place, value, field_fault, signed_at, load_fault}

-- the first bad number of width, height and cover
abbrev pub section_fault : ℕ → ℕ → List ℕ → Option Fault
section_fault least map rest =
    first (field_fault Width least map rest)
    (first (field_fault Height least map rest) (field_fault Cover least map rest))

-- of concrete, steel and aggregate
abbrev pub materials_fault : ℕ → ℕ → List ℕ → Option Fault
materials_fault least map rest =
    first (field_fault Concrete least map rest)
    (first (field_fault Steel least map rest) (field_fault Aggregate least map rest))

-- of frame, span and shear factor
abbrev pub member_fault : ℕ → ℕ → List ℕ → Option Fault
member_fault least map rest =
    first (field_fault Frame least map rest)
    (first (field_fault Span least map rest) (field_fault ShearFactor least map rest))

-- of the moment and the shear that begin at a place
abbrev pub force_fault : List ℕ → ℕ → Option Fault
force_fault rest at = first (load_fault rest at) (load_fault rest (at + effect_bytes))

-- of the forces at left face, midspan and right face that begin at a place
abbrev pub forces_fault : List ℕ → ℕ → Option Fault
forces_fault rest at =
    first (force_fault rest at)
    (first (force_fault rest (mid_place at)) (force_fault rest (right_place at)))

-- of a load case; an absent one has no fault
unfoldable pub case_fault : LoadCase → ℕ → List ℕ → Option Fault
case_fault case map rest =
    cond (stands map (load_bit case)) (forces_fault rest (offset map (load_bit case))) None

-- of the four load cases
abbrev pub loads_fault : ℕ → List ℕ → Option Fault
loads_fault map rest =
    first (case_fault Dead map rest)
    (first (case_fault Live map rest)
    (first (case_fault Wind map rest) (case_fault Earthquake map rest)))

-- of all numbers, in byte order
abbrev pub values_fault : ℕ → ℕ → List ℕ → Option Fault
values_fault least map rest =
    first (section_fault least map rest)
    (first (materials_fault least map rest)
    (first (member_fault least map rest) (loads_fault map rest)))

-- what the section of a card is
abbrev pub SectionIs : ℕ → List ℕ → Section → Type 0
SectionIs map rest s =
    (s.width ≡ value Width map rest)
    × (s.height ≡ value Height map rest)
    × (s.cover ≡ value Cover map rest)

-- what the materials are
abbrev pub MaterialsIs : ℕ → List ℕ → Materials → Type 0
MaterialsIs map rest m =
    (m.concrete ≡ value Concrete map rest)
    × (m.steel ≡ value Steel map rest)
    × (m.aggregate ≡ value Aggregate map rest)

-- frame is 0 or 1
abbrev pub MemberIs : ℕ → List ℕ → Member → Type 0
MemberIs map rest m =
    (m.in_frame ≡ (value Frame map rest == 1))
    × (m.span ≡ value Span map rest)
    × (m.shear_factor ≡ value ShearFactor map rest)

-- the moment and the shear that begin at a place
abbrev pub ForceAt : List ℕ → ℕ → Force → Type 0
ForceAt rest at f = (f.moment ≡ signed_at rest at) × (f.shear ≡ signed_at rest (at + effect_bytes))

-- the forces at left face, midspan and right face that begin at a place
abbrev pub ForcesAt : List ℕ → ℕ → Case → Type 0
ForcesAt rest at c =
    ForceAt rest at c.left
    × ForceAt rest (mid_place at) c.mid
    × ForceAt rest (right_place at) c.right

-- a number of a load case, 0 where the case is absent
unfoldable pub load_number : LoadCase → ℕ → List ℕ → ℕ → ℤ
load_number case map rest at = cond (stands map (load_bit case)) (signed_at rest at) (pos 0)

-- a moment and a shear of a load case
abbrev pub ForceIs : LoadCase → ℕ → List ℕ → ℕ → Force → Type 0
ForceIs case map rest at f =
    (f.moment ≡ load_number case map rest at)
    × (f.shear ≡ load_number case map rest (at + effect_bytes))

-- what a load case is
abbrev pub CaseIs : LoadCase → ℕ → List ℕ → Case → Type 0
CaseIs case map rest c =
    ForceIs case map rest (offset map (load_bit case)) c.left
    × ForceIs case map rest (mid_place (offset map (load_bit case))) c.mid
    × ForceIs case map rest (right_place (offset map (load_bit case))) c.right

-- what the loads are
abbrev pub LoadsIs : ℕ → List ℕ → Loads → Type 0
LoadsIs map rest l =
    CaseIs Dead map rest l.dead
    × CaseIs Live map rest l.live
    × CaseIs Wind map rest l.wind
    × CaseIs Earthquake map rest l.earthquake
