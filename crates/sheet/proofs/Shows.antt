-- What a place may show is determined by the calls.
use Rattle.std.proofs.Common.{◌≡◌, ℕ, List, Some, None, Option, refl}
use Rattle.rebar.specs.declared.beam.Beam.{Beam}
use Rattle.rebar.specs.declared.cage.Cage.{Cage}
use Rattle.search.specs.declared.decision.Choice.{Choice}
use Rattle.search.specs.declared.decision.Decision.{Decision}
use Rattle.search.specs.declared.decision.Decision.TheVariants as decision
use Rattle.sheet.specs.declared.call.Call.{Call}
use Rattle.sheet.specs.declared.reading.Shown.{Shown}
use Rattle.sheet.specs.declared.reading.Shown.TheVariants.{Empty, Open, Chosen, Impossible}
use Rattle.sheet.specs.History.{card_after, IsBeamAfter}
use Rattle.sheet.specs.Law.{IsRight, IsDecidedAs}
use Rattle.sheet.proofs.Runs.{one_right}

no_card : (o : Option (List ℕ)) (card : List ℕ) → o ≡ None → o ≡ Some card → ⊥
no_card o card e f = cc

same_choice : (x y : Choice) → decision.Chosen x ≡ decision.Chosen y → Chosen x ≡ Chosen y
same_choice x y e = cc

same_number : (m n : ℕ) → decision.Impossible m ≡ decision.Impossible n → Impossible m ≡ Impossible n
same_number m n e = cc

apart : (x : Choice) (n : ℕ) → decision.Chosen x ≡ decision.Impossible n → ⊥
apart x n e = cc

module _ (pile : Beam → Cage → ℕ) (calls : List Call) (p : ℕ) where
  empty : (b : Beam) → card_after calls p ≡ None → IsBeamAfter calls p b → ⊥
  empty b e is = no_card (card_after calls p) is.0 e is.1.0

  one : (d e : Decision) → IsDecidedAs pile calls p d → IsDecidedAs pile calls p e → e ≡ d
  one d e h k = one_right pile calls p h.0.0 d e h.0.1.0 h.0.1.1 (k.0.0, (k.0.1.0, k.0.1.1))

  pub one_shown : (s r : Shown) → IsRight pile calls p s → IsRight pile calls p r → s ≡ r
  one_shown Empty Empty h k = refl
  one_shown Empty Open h k = absurd (empty k.0.0 h k.0.1)
  one_shown Empty (Chosen y) h k = absurd (empty k.0.0 h k.0.1.0)
  one_shown Empty (Impossible m) h k = absurd (empty k.0.0 h k.0.1.0)
  one_shown Open Empty h k = absurd (empty h.0.0 k h.0.1)
  one_shown Open Open h k = refl
  one_shown Open (Chosen y) h k = absurd (h.1 (decision.Chosen y) k.1)
  one_shown Open (Impossible m) h k = absurd (h.1 (decision.Impossible m) k.1)
  one_shown (Chosen x) Empty h k = absurd (empty h.0.0 k h.0.1.0)
  one_shown (Chosen x) Open h k = absurd (k.1 (decision.Chosen x) h.1)
  one_shown (Chosen x) (Chosen y) h k = same_choice x y (one (decision.Chosen y) (decision.Chosen x) k h)
  one_shown (Chosen x) (Impossible m) h k = absurd (apart x m (one (decision.Impossible m) (decision.Chosen x) k h))
  one_shown (Impossible n) Empty h k = absurd (empty h.0.0 k h.0.1.0)
  one_shown (Impossible n) Open h k = absurd (k.1 (decision.Impossible n) h.1)
  one_shown (Impossible n) (Chosen y) h k = absurd (apart y n (one (decision.Impossible n) (decision.Chosen y) h k))
  one_shown (Impossible n) (Impossible m) h k = same_number n m (one (decision.Impossible m) (decision.Impossible n) k h)
