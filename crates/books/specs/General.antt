-- The general book: articles 1 to 13, each as the inequality that it asks, and what it answers.
use Rattle.std.specs.Prelude.{ℕ, ◌+◌, ◌*◌, List, [], ◌∷◌, ◌++◌, Option}
use Rattle.rebar.specs.Marks.{bar_area, face_area}
use Rattle.rebar.specs.Grades.{block_factor_of, least_ratio_of}
use Rattle.rebar.specs.declared.section.Section.{Section}
use Rattle.rebar.specs.declared.materials.Materials.{Materials}
use Rattle.rebar.specs.declared.member.Member.{Member}
use Rattle.loads.specs.declared.actions.Actions.{Actions}
use Rattle.rebar.specs.declared.beam.Beam.{Beam}
use Rattle.rebar.specs.declared.cage.Bars.{Bars}
use Rattle.rebar.specs.declared.cage.Ties.{Ties}
use Rattle.rebar.specs.declared.cage.Cage.{Cage}
use Rattle.books.specs.Rules.{Rule, ◌≼◌, ◌≺◌, ◌and◌, ◌or◌}
use Rattle.books.specs.Rules.{Article, article, first_broken, if_refused}
use Rattle.books.specs.Numbers.{clear_distance, y_of, room, row_length, outer_of, face_depth}
use Rattle.books.specs.Numbers.{d_of, q_of, z_of, vc_of, vm_of, vs_of}

-- 1, 2: the outer row fits
abbrev pub outer_row_fits : Section → Materials → Ties → Bars → Rule
outer_row_fits s m t x = row_length m x (outer_of s m t x) ≼ room s t

-- 3: the faces stand apart (R-033, Article 117)
abbrev pub faces_apart : Section → ℕ → ℕ → Rule
faces_apart s bottom top = bottom + top + clear_distance ≼ 10 * s.height

-- 4, 5: net strain 0.005 at least, measured at d
abbrev pub ductile : Section → Materials → ℕ → ℕ → Rule
ductile s m q d = 16000000 * q ≼ 51 * block_factor_of m.concrete * m.concrete * s.width * d

-- 6, 7: the moment is at most 0.9 of q times its lever arm
abbrev pub bends : Section → Materials → ℕ → ℕ → ℕ → Rule
bends s m moment q d =
    170000 * moment * m.concrete * s.width + 90000 * q * q ≼ 153 * q * m.concrete * s.width * d

-- 21, 22: the least steel
abbrev pub least_steel : Section → Materials → ℕ → ℕ → Rule
least_steel s m area d = least_ratio_of m.concrete m.steel * s.width * d ≼ 100000 * area

-- 8, 9: the least steel where a moment pulls at the face (R-033, Articles 110 and 111)
abbrev pub least_steel_under : Section → Materials → ℕ → ℕ → ℕ → Rule
least_steel_under s m moment area d = moment ≼ 0 or least_steel s m area d

-- 10: the section bears the shear (R-033, Article 132)
abbrev pub section_bears : ℕ → ℕ → ℕ → Rule
section_bears p v vm = 10 * v ≼ p * vm

-- 11: concrete and ties bear the shear (R-033, Article 131)
abbrev pub ties_bear : ℕ → ℕ → ℕ → ℕ → Rule
ties_bear p v vc vs = 10 * v ≼ p * (vc + vs)

-- 12: the least ties, where the shear passes half of what the concrete bears (R-033, Article 137)
abbrev pub least_ties : Section → Materials → ℕ → Ties → ℕ → ℕ → Rule
least_ties s m p t v vc =
    20 * v ≼ p * vc or 7 * s.width * t.spacing ≼ 400 * bar_area t.mark * y_of m

-- 13: the widest spacing, half of it where the ties bear much (R-033, Article 137)
abbrev pub close_enough : Ties → ℕ → ℕ → ℕ → Rule
close_enough t z vc vs =
    20 * t.spacing ≼ z and (vs ≺ 2 * vc or 40 * t.spacing ≼ z and t.spacing ≼ 300)

-- articles 10 to 13 at an effective depth z
abbrev pub in_shear : Section → Materials → ℕ → ℕ → Ties → ℕ → List Article
in_shear s m p v t z =
    article 10 (section_bears p v (vm_of s m z))
    ∷ article 11 (ties_bear p v (vc_of s m z) (vs_of m t z))
    ∷ article 12 (least_ties s m p t v (vc_of s m z))
    ∷ article 13 (close_enough t z (vc_of s m z) (vs_of m t z))
    ∷ []

-- articles 1 to 9, which look at the ties' mark and not at their spacing
abbrev pub of_bars : Section → Materials → Actions → Cage → List Article
of_bars s m a c =
    let t : Ties = c.ties in
    let d : ℕ = d_of s m t c.bottom in
    let e : ℕ = d_of s m t c.top in
    article 1 (outer_row_fits s m t c.bottom)
    ∷ article 2 (outer_row_fits s m t c.top)
    ∷ article 3 (faces_apart s (face_depth s m t c.bottom) (face_depth s m t c.top))
    ∷ article 4 (ductile s m (q_of m c.bottom) d)
    ∷ article 5 (ductile s m (q_of m c.top) e)
    ∷ article 6 (bends s m a.bottom (q_of m c.bottom) d)
    ∷ article 7 (bends s m a.top (q_of m c.top) e)
    ∷ article 8 (least_steel_under s m a.bottom (face_area c.bottom) d)
    ∷ article 9 (least_steel_under s m a.top (face_area c.top) e)
    ∷ []

-- the general book
abbrev pub general : Section → Materials → Member → Actions → Cage → List Article
general s m member a c =
    of_bars s m a c ++ in_shear s m member.shear_factor a.shear c.ties (z_of s m c)

-- the articles of the general book for a beam
unfoldable pub articles_for : Beam → Cage → List Article
articles_for b c = general b.section b.materials b.member b.actions c

-- what it refuses at every spacing: the first of articles 1 to 9 that does not hold
unfoldable pub refusal_of_bars : Beam → Cage → Option ℕ
refusal_of_bars b c = if_refused (first_broken (of_bars b.section b.materials b.actions c))

-- its meaning: the number of the first article that does not hold
unfoldable pub general_answer : Beam → Cage → ℕ
general_answer b c = first_broken (articles_for b c)
