-- Beams of the same numbers are the same: the facts in their ghost fields have one proof at most, and their actions are those of
-- their loads.
use Rattle.std.proofs.Common.{◌≡◌, true, subst}
use mathlib.Core.Bool.{Bool-set}
use mathlib.Core.HLevel.{is_prop→PathP}
use native.Mathlib.Bridge.{le_prop}
use mathlib.Core.Sum.{⊎_set}
use native.Mathlib.Nat.{ℕ_set}
use Rattle.loads.specs.Actions.{ActionsOf}
use Rattle.loads.specs.declared.loads.Loads.{Loads}
use Rattle.loads.proofs.Same.{one_actions}
use Rattle.rebar.specs.Grades.{concrete_grades, steel_grades, shear_factors, is_concrete, is_steel, is_shear_factor}
use Rattle.rebar.specs.Ranges.{Within, ends, widths, heights, covers, aggregates, spans}
use Rattle.rebar.specs.declared.beam.Beam.{Beam}
use Rattle.rebar.specs.declared.materials.Materials.{Materials}
use Rattle.rebar.specs.declared.member.Member.{Member}
use Rattle.rebar.specs.declared.section.Section.{Section}

pub same_section : (a b : Section) → a.width ≡ b.width → a.height ≡ b.height → a.cover ≡ b.cover → a ≡ b
same_section a b p q r =
    λ i. record {
      width = p i;
      height = q i;
      cover = r i;
      wide = is_prop→PathP (λ j. Within widths (p j)) (λ j. hlevel le_prop) a.wide b.wide i;
      high = is_prop→PathP (λ j. Within heights (q j)) (λ j. hlevel le_prop) a.high b.high i;
      covered = is_prop→PathP (λ j. Within covers (r j)) (λ j. hlevel le_prop) a.covered b.covered i;
    }

pub same_materials : (a b : Materials) → a.concrete ≡ b.concrete → a.steel ≡ b.steel → a.aggregate ≡ b.aggregate → a ≡ b
same_materials a b p q r =
    λ i. record {
      concrete = p i;
      steel = q i;
      aggregate = r i;
      poured = is_prop→PathP (λ j. Within (ends concrete_grades) (p j)) (λ j. hlevel le_prop) a.poured b.poured i;
      graded = is_prop→PathP (λ j. is_concrete (p j) ≡ true) (λ j. hlevel Bool-set) a.graded b.graded i;
      strong = is_prop→PathP (λ j. Within (ends steel_grades) (q j)) (λ j. hlevel le_prop) a.strong b.strong i;
      rolled = is_prop→PathP (λ j. is_steel (q j) ≡ true) (λ j. hlevel Bool-set) a.rolled b.rolled i;
      coarse = is_prop→PathP (λ j. Within aggregates (r j)) (λ j. hlevel le_prop) a.coarse b.coarse i;
    }

pub same_member : (a b : Member) → a.in_frame ≡ b.in_frame → a.span ≡ b.span → a.shear_factor ≡ b.shear_factor → a ≡ b
same_member a b p q r =
    λ i. record {
      in_frame = p i;
      span = q i;
      shear_factor = r i;
      spans = is_prop→PathP (λ j. Within spans (q j)) (λ j. hlevel le_prop) a.spans b.spans i;
      reduces = is_prop→PathP (λ j. Within (ends shear_factors) (r j)) (λ j. hlevel le_prop) a.reduces b.reduces i;
      listed = is_prop→PathP (λ j. is_shear_factor (r j) ≡ true) (λ j. hlevel Bool-set) a.listed b.listed i;
    }

pub same_beam : (a b : Beam) → a.section ≡ b.section → a.materials ≡ b.materials → a.member ≡ b.member → a.loads ≡ b.loads → a ≡ b
same_beam a b p q r s =
    let t : a.actions ≡ b.actions = one_actions b.loads a.actions b.actions (subst (λ (l : Loads). ActionsOf l a.actions) s a.factored) b.factored in
    λ i. record {
      section = p i;
      materials = q i;
      member = r i;
      loads = s i;
      actions = t i;
      factored = is_prop→PathP (λ j. ActionsOf (s j) (t j)) (λ j. hlevel (⊎_set, ℕ_set)) a.factored b.factored i;
    }
