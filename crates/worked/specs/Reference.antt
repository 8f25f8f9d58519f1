-- The reference beam: 300 by 500 mm, cover 40, concrete 210, steel 4200, span 5,000, dead and live load.
use Rattle.std.specs.Prelude.{◌≡◌, ℕ, Bool, true, false, T, nat_le, refl, List, [], ◌∷◌, ◌++◌, ℤ, pos, negsuc, neg_ℤ}
use Rattle.std.proofs.Common.{lit≤}
use lib.Signed.{le_z, le_z_yes}
use Rattle.loads.specs.declared.loads.Force.{Force}
use Rattle.loads.specs.declared.loads.Case.{Case}
use Rattle.loads.specs.declared.loads.Loads.{Loads}
use Rattle.loads.specs.declared.actions.Actions.{Actions}
use Rattle.loads.specs.Effects.{greatest_effect}
use Rattle.loads.specs.Combinations.{rows}
use Rattle.loads.specs.Actions.{ActionsOf}
use Rattle.rebar.specs.Grades.{is_concrete, is_steel, is_shear_factor}
use Rattle.rebar.specs.declared.section.Section.{Section}
use Rattle.rebar.specs.declared.materials.Materials.{Materials}
use Rattle.rebar.specs.declared.member.Member.{Member}
use Rattle.rebar.specs.declared.beam.Beam.{Beam}

-- 300 by 500, cover 40
abbrev pub reference_section : Section
reference_section =
    record {
      width = 300;
      height = 500;
      cover = 40;
      wide = (lit≤ tt, lit≤ tt);
      high = (lit≤ tt, lit≤ tt);
      covered = (lit≤ tt, lit≤ tt);
    }

-- there is concrete of grade 210
pub graded_210 : is_concrete 210 ≡ true
unfolding is_concrete
graded_210 = refl

-- there is steel of grade 4200
pub rolled_4200 : is_steel 4200 ≡ true
unfolding is_steel
rolled_4200 = refl

-- concrete 210, steel 4200, aggregate 20
abbrev pub reference_materials : Materials
reference_materials =
    record {
      concrete = 210;
      steel = 4200;
      aggregate = 20;
      poured = (lit≤ tt, lit≤ tt);
      graded = graded_210;
      strong = (lit≤ tt, lit≤ tt);
      rolled = rolled_4200;
      coarse = (lit≤ tt, lit≤ tt);
    }

-- there is a shear factor 75
pub listed_75 : is_shear_factor 75 ≡ true
unfolding is_shear_factor
listed_75 = refl

-- span 5,000 and shear factor 75, in the frame that resists earthquakes or not
abbrev pub reference_member : Bool → Member
reference_member in_frame =
    record {
      in_frame = in_frame;
      span = 5000;
      shear_factor = 75;
      spans = (lit≤ tt, lit≤ tt);
      reduces = (lit≤ tt, lit≤ tt);
      listed = listed_75;
    }

-- a moment and a shear
abbrev pub force : (m v : ℤ)
    → T (le_z (neg_ℤ (pos greatest_effect)) m) → T (le_z m (pos greatest_effect))
    → T (le_z (neg_ℤ (pos greatest_effect)) v) → T (le_z v (pos greatest_effect)) → Force
force m v a b c d =
    record {
      moment = m;
      shear = v;
      bends = (le_z_yes a, le_z_yes b);
      cuts = (le_z_yes c, le_z_yes d);
    }

-- the dead load: a moment and a shear at each station
abbrev pub dead : Case
dead =
    record {
      left = force (negsuc 3999) (pos 5000) tt tt tt tt;
      mid = force (pos 3000) (pos 0) tt tt tt tt;
      right = force (negsuc 3999) (negsuc 4999) tt tt tt tt;
    }

-- the live load
abbrev pub live : Case
live =
    record {
      left = force (negsuc 2999) (pos 4000) tt tt tt tt;
      mid = force (pos 2000) (pos 0) tt tt tt tt;
      right = force (negsuc 2999) (negsuc 3999) tt tt tt tt;
    }

-- a case with no load
abbrev pub no_load : Case
no_load = let none : Force = force (pos 0) (pos 0) tt tt tt tt in record { left = none; mid = none; right = none }

-- the four cases
abbrev pub reference_loads : Loads
reference_loads = record { dead = dead; live = live; wind = no_load; earthquake = no_load }

-- its actions, with a bottom moment put in
abbrev pub actions_with : (m : ℕ) → T (nat_le m 3800000) → Actions
actions_with m t =
    record {
      bottom = m;
      top = 96000;
      shear = 124000;
      gravity = 124000;
      none_above_its_greatest = (lit≤ t, lit≤ tt, lit≤ tt, lit≤ tt);
    }

-- what the loads make
abbrev pub reference_actions : Actions
reference_actions = actions_with 68000 tt

-- by computing the ten combinations at the three stations
pub reference_factored : ActionsOf reference_loads reference_actions
unfolding rows
reference_factored = (refl, refl, refl, refl)

-- the beam, in the frame or not
abbrev pub reference_beam : Bool → Beam
reference_beam in_frame =
    record {
      section = reference_section;
      materials = reference_materials;
      member = reference_member in_frame;
      loads = reference_loads;
      actions = reference_actions;
      factored = reference_factored;
    }

-- width 300, height 500 and concrete 210, as a card has them
abbrev pub section_bytes : List ℕ
section_bytes = 0x01 ∷ 0x2c ∷ 0x01 ∷ 0xf4 ∷ 0x00 ∷ 0xd2 ∷ []

-- span 5,000
abbrev pub span_bytes : List ℕ
span_bytes = 0x13 ∷ 0x88 ∷ []

-- the dead load: moment and shear at each station
abbrev pub dead_bytes : List ℕ
dead_bytes =
    0xff ∷ 0xff ∷ 0xf0 ∷ 0x60 ∷ 0x00 ∷ 0x00 ∷ 0x13 ∷ 0x88
    ∷ 0x00 ∷ 0x00 ∷ 0x0b ∷ 0xb8 ∷ 0x00 ∷ 0x00 ∷ 0x00 ∷ 0x00
    ∷ 0xff ∷ 0xff ∷ 0xf0 ∷ 0x60 ∷ 0xff ∷ 0xff ∷ 0xec ∷ 0x78
    ∷ []

-- the live load
abbrev pub live_bytes : List ℕ
live_bytes =
    0xff ∷ 0xff ∷ 0xf4 ∷ 0x48 ∷ 0x00 ∷ 0x00 ∷ 0x0f ∷ 0xa0
    ∷ 0x00 ∷ 0x00 ∷ 0x07 ∷ 0xd0 ∷ 0x00 ∷ 0x00 ∷ 0x00 ∷ 0x00
    ∷ 0xff ∷ 0xff ∷ 0xf4 ∷ 0x48 ∷ 0xff ∷ 0xff ∷ 0xf0 ∷ 0x60
    ∷ []

-- the reference card, its map first; and that of the same beam in the frame, with one byte more
abbrev pub reference_card : Bool → List ℕ
reference_card false = 0x06 ∷ 0x8b ∷ section_bytes ++ span_bytes ++ dead_bytes ++ live_bytes
reference_card true = 0x06 ∷ 0xcb ∷ section_bytes ++ 0x01 ∷ span_bytes ++ dead_bytes ++ live_bytes
