-- The numbers that both faces of a cage make together.
use Rattle.std.specs.Prelude.{◌≡◌, ℕ, min}
use Rattle.rebar.specs.declared.beam.Beam.{Beam}
use Rattle.rebar.specs.declared.cage.Cage.{Cage}
use Rattle.books.specs.Numbers.{z_of}
use Rattle.books.specs.declared.face.Faces.{Faces}

-- z, the smaller effective depth of two faces
abbrev pub least_depth : Faces → ℕ
least_depth faces = min faces.bottom.depth faces.top.depth

-- these are the two faces of a cage in a beam, and its ties
pub record AreOf (beam : Beam) (cage : Cage) (faces : Faces) : Type 0 where
  pub of_the_beam : faces.beam.now ≡ beam
  pub ties : faces.ties.now ≡ cage.ties
  pub depth : least_depth faces ≡ z_of beam.section beam.materials cage
