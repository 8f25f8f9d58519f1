-- Loads of the same numbers are the same, and have the same actions.
use Rattle.std.proofs.Common.{◌≡◌, ℕ, ℤ, pos, ◌≤◌, Bool, true, false, T}
use mathlib.Core.HLevel.{is_prop→PathP}
use native.Mathlib.Bridge.{le_prop}
use Rattle.loads.specs.Effects.{Moderate}
use Rattle.loads.specs.Actions.{ActionsOf}
use Rattle.loads.specs.declared.actions.Actions.{Actions}
use Rattle.loads.specs.declared.loads.Force.{Force}
use Rattle.loads.specs.declared.loads.Case.{Case}
use Rattle.loads.specs.declared.loads.Loads.{Loads}

truth_prop : (b : Bool) → IsProp (T b)
truth_prop true = hlevel
truth_prop false = hlevel

pub same_force : (a b : Force) → a.moment ≡ b.moment → a.shear ≡ b.shear → a ≡ b
same_force a b p q =
    λ i. record {
      moment = p i;
      shear = q i;
      bends = is_prop→PathP (λ j. Moderate (p j)) (λ j. hlevel truth_prop) a.bends b.bends i;
      cuts = is_prop→PathP (λ j. Moderate (q j)) (λ j. hlevel truth_prop) a.cuts b.cuts i;
    }

pub same_case : (a b : Case) → a.left ≡ b.left → a.mid ≡ b.mid → a.right ≡ b.right → a ≡ b
same_case a b p q r = λ i. record { left = p i; mid = q i; right = r i }

pub same_loads : (a b : Loads) → a.dead ≡ b.dead → a.live ≡ b.live → a.wind ≡ b.wind → a.earthquake ≡ b.earthquake → a ≡ b
same_loads a b p q r s = λ i. record { dead = p i; live = q i; wind = r i; earthquake = s i }

same_actions : (a b : Actions) → a.bottom ≡ b.bottom → a.top ≡ b.top → a.shear ≡ b.shear → a.gravity ≡ b.gravity → a ≡ b
same_actions a b p q r s =
    λ i. record {
      bottom = p i;
      top = q i;
      shear = r i;
      gravity = s i;
      none_above_its_greatest = is_prop→PathP (λ j. (p j ≤ 3800000) × (q j ≤ 3800000) × (r j ≤ 3800000) × (s j ≤ 2800000)) (λ j. hlevel le_prop) a.none_above_its_greatest b.none_above_its_greatest i;
    }

same_size : (m n : ℕ) (z : ℤ) → pos m ≡ z → pos n ≡ z → m ≡ n
same_size m n z e f = cc

pub one_actions : (loads : Loads) (a b : Actions) → ActionsOf loads a → ActionsOf loads b → a ≡ b
one_actions loads a b h k =
    same_actions a b (same_size _ _ _ h.0 k.0) (same_size _ _ _ h.1 k.1) (same_size _ _ _ h.2 k.2) (same_size _ _ _ h.3 k.3)
