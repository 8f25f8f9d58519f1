-- The frame layer: articles 21 to 28, for beams of a frame that resists earthquakes.
use Rattle.std.specs.Prelude.{ℕ, ◌+◌, ◌-◌, ◌*◌, ◌/◌, cond, List, [], ◌∷◌, nat_le}
use Rattle.rebar.specs.Marks.{face_area}
use Rattle.rebar.specs.declared.section.Section.{Section}
use Rattle.rebar.specs.declared.materials.Materials.{Materials}
use Rattle.rebar.specs.declared.member.Member.{Member}
use Rattle.loads.specs.declared.actions.Actions.{Actions}
use Rattle.rebar.specs.declared.beam.Beam.{Beam}
use Rattle.rebar.specs.declared.cage.Ties.{Ties}
use Rattle.rebar.specs.declared.cage.Cage.{Cage}
use Rattle.books.specs.Rules.{Rule, ◌≼◌, ◌≺◌, ◌and◌, Article, article, first_broken}
use Rattle.books.specs.Numbers.{d_of, q_of, z_of, vc_of, vm_of, vs_of}
use Rattle.books.specs.General.{least_steel, section_bears, ties_bear}
use Rattle.books.specs.declared.face.Face.{Face}
use Rattle.books.specs.declared.face.Faces.{Faces}

-- the probable moment of a face, rounded up; the bracket stops at 0
abbrev pub probable_moment : Section → Materials → ℕ → ℕ → ℕ
probable_moment s m q d =
    (5 * q * (17 * m.concrete * s.width * d - 12500 * q) + (680 * m.concrete * s.width - 1))
    / (680 * m.concrete * s.width)

-- j, the shear that the two probable moments make over the span, rounded up
abbrev pub moment_shear : ℕ → ℕ → ℕ → ℕ
moment_shear span bottom top = (10 * (bottom + top) + (span - 1)) / span

-- j, the shear that the probable moments of two faces make over the span
abbrev pub shear_of_moments : Faces → ℕ
shear_of_moments faces =
    let moment : Face → ℕ =
    λ face. probable_moment face.beam.now.section face.beam.now.materials face.force face.depth in
    moment_shear faces.beam.now.member.span (moment faces.bottom) (moment faces.top)

-- 23, 24: the most steel
abbrev pub most_steel : Section → ℕ → ℕ → Rule
most_steel s area d = 400 * area ≺ s.width * d

-- 25: the bottom has half the steel of the top
abbrev pub half_below : ℕ → ℕ → Rule
half_below bottom top = top ≼ 2 * bottom

-- 26: the widest spacing of a frame's ties (R-033, Article 140)
abbrev pub close_in_frame : Ties → ℕ → Rule
close_in_frame t z = 40 * t.spacing ≼ z and t.spacing ≼ 120

-- vc, or 0 where the moments make more than half of the shear
abbrev pub relied_on : ℕ → ℕ → ℕ → ℕ
relied_on g j vc = cond (nat_le (2 * j) (g + j)) vc 0

-- articles 27 and 28, of gravity shear g and moment shear j at an effective depth z
-- (R-033, Articles 128 to 130)
abbrev pub in_frame_shear : Section → Materials → ℕ → ℕ → ℕ → Ties → ℕ → List Article
in_frame_shear s m p g j t z =
    article 27 (section_bears p (g + j) (vm_of s m z))
    ∷ article 28 (ties_bear p (g + j) (relied_on g j (vc_of s m z)) (vs_of m t z))
    ∷ []

-- the layer's own articles
abbrev pub frame : Section → Materials → Member → Actions → Cage → List Article
frame s m member a c =
    let t : Ties = c.ties in
    let d : ℕ = d_of s m t c.bottom in
    let e : ℕ = d_of s m t c.top in
    let z : ℕ = z_of s m c in
    let bottom : ℕ = probable_moment s m (q_of m c.bottom) d in
    let top : ℕ = probable_moment s m (q_of m c.top) e in
    let j : ℕ = moment_shear member.span bottom top in
    article 21 (least_steel s m (face_area c.bottom) d)
    ∷ article 22 (least_steel s m (face_area c.top) e)
    ∷ article 23 (most_steel s (face_area c.bottom) d)
    ∷ article 24 (most_steel s (face_area c.top) e)
    ∷ article 25 (half_below (face_area c.bottom) (face_area c.top))
    ∷ article 26 (close_in_frame t z)
    ∷ in_frame_shear s m member.shear_factor a.gravity j t z

-- those for a beam: none where it belongs to no such frame
abbrev pub frame_articles_for : Beam → Cage → List Article
frame_articles_for b c =
    cond b.member.in_frame (frame b.section b.materials b.member b.actions c) []

-- what the layer answers of its own
unfoldable pub frame_answer : Beam → Cage → ℕ
frame_answer b c = first_broken (frame_articles_for b c)
