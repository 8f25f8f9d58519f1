-- The steel of a cage in a beam, in mm³.
use Rattle.std.specs.Prelude.{ℕ, ◌+◌, ◌-◌, ◌*◌, ◌/◌, max}
use Rattle.rebar.specs.Marks.{bar_diameter, bar_area, face_area}
use Rattle.rebar.specs.declared.beam.Beam.{Beam}
use Rattle.rebar.specs.declared.cage.Bars.{Bars}
use Rattle.rebar.specs.declared.cage.Ties.{Ties}
use Rattle.rebar.specs.declared.cage.Cage.{Cage}

-- a hook is 75 mm or six diameters rounded up to whole mm, the greater
unfoldable pub hook : Ties → ℕ
hook ties = max 75 ((6 * bar_diameter ties.mark + 9) / 10)

-- a tie goes round inside the cover and ends in two hooks
unfoldable pub tie_length : Beam → Ties → ℕ
tie_length beam ties =
    2 * (beam.section.width - 2 * beam.section.cover)
    + 2 * (beam.section.height - 2 * beam.section.cover)
    + 2 * hook ties

-- the span less 50 mm at each end, in spacings rounded up, and one tie more
unfoldable pub tie_count : Beam → Ties → ℕ
tie_count beam ties = (beam.member.span - 100 + (ties.spacing - 1)) / ties.spacing + 1

-- the bars of one face
unfoldable pub bars_steel : Beam → Bars → ℕ
bars_steel beam bars = beam.member.span * face_area bars

-- all ties
unfoldable pub ties_steel : Beam → Ties → ℕ
ties_steel beam ties = tie_count beam ties * tie_length beam ties * bar_area ties.mark

-- every cage has less steel than this, whatever the beam
abbrev pub steel_bound : ℕ
steel_bound = 500000000

-- both faces and the ties
abbrev pub steel : Beam → Cage → ℕ
steel beam cage = bars_steel beam cage.bottom + bars_steel beam cage.top + ties_steel beam cage.ties
