-- Cages of the same numbers are the same: the facts in their ghost fields have one proof at most.
use Rattle.std.proofs.Common.{◌≡◌, ◌%◌}
use mathlib.Core.HLevel.{is_prop→PathP, ×_prop}
use native.Mathlib.Bridge.{le_prop}
use native.Mathlib.Nat.{ℕ_set}
use Rattle.rebar.specs.Order.{numbers}
use Rattle.rebar.specs.Ranges.{Within, main_marks, tie_marks, bar_numbers, spacings, spacing_step}
use Rattle.rebar.specs.declared.cage.Bars.{Bars}
use Rattle.rebar.specs.declared.cage.Ties.{Ties}
use Rattle.rebar.specs.declared.cage.Cage.{Cage}

pub same_bars : (a b : Bars) → a.mark ≡ b.mark → a.number ≡ b.number → a ≡ b
same_bars a b p q =
    λ i. record {
      mark = p i;
      number = q i;
      marked = is_prop→PathP (λ j. Within main_marks (p j)) (λ j. ×_prop le_prop le_prop) a.marked b.marked i;
      counted = is_prop→PathP (λ j. Within bar_numbers (q j)) (λ j. ×_prop le_prop le_prop) a.counted b.counted i;
    }

pub same_ties : (a b : Ties) → a.mark ≡ b.mark → a.spacing ≡ b.spacing → a ≡ b
same_ties a b p q =
    λ i. record {
      mark = p i;
      spacing = q i;
      marked = is_prop→PathP (λ j. Within tie_marks (p j)) (λ j. ×_prop le_prop le_prop) a.marked b.marked i;
      spaced =
          is_prop→PathP (λ j. Within spacings (q j) × (q j % spacing_step ≡ 0)) (λ j. ×_prop (×_prop le_prop le_prop) (ℕ_set _ _)) a.spaced
          b.spaced i;
    }

pub same_cage : (a b : Cage) → a.bottom ≡ b.bottom → a.top ≡ b.top → a.ties ≡ b.ties → a ≡ b
same_cage a b p q r = λ i. record { bottom = p i; top = q i; ties = r i }

pub same_numbers : (a b : Cage) → numbers a ≡ numbers b → a ≡ b
same_numbers a b e =
    same_cage a b (same_bars a.bottom b.bottom (cc) (cc)) (same_bars a.top b.top (cc) (cc))
    (same_ties a.ties b.ties (cc) (cc))
