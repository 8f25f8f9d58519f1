-- No two decisions can both be right.
use Rattle.std.proofs.Common.{◌≡◌, ℕ, ◌<◌, ◌≤◌, Bool, ◌⊎◌, sym, ap, ◌∙◌, inl, inr, arith}
use mathlib.Core.HLevel.{is_prop→PathP}
use native.Mathlib.Bridge.{le_prop}
use Rattle.rebar.specs.declared.beam.Beam.{Beam}
use Rattle.rebar.specs.declared.cage.Cage.{Cage}
use Rattle.rebar.specs.Steel.{steel}
use Rattle.stock.specs.declared.kind.Kind.{Kind}
use Rattle.search.specs.declared.decision.Choice.{Choice}
use Rattle.search.specs.declared.decision.Decision.{Decision}
use Rattle.search.specs.declared.decision.Decision.TheVariants.{Chosen, Impossible}
use Rattle.search.specs.Lightest.{Better, FromStock, Lightest}
use Rattle.search.specs.Search.{Step, Done}
use Rattle.search.proofs.Loops.{settled}
use Rattle.rebar.proofs.Same.{same_bars, same_ties, same_cage}

-- choices of the same cage and steel are the same
same_choice : (a b : Choice) → a.cage ≡ b.cage → a.steel ≡ b.steel → a ≡ b
same_choice a b p q =
    λ i. record { cage = p i; steel = q i; steel_under_the_bound = is_prop→PathP (λ j. q j < 500000000) (λ j. le_prop) a.steel_under_the_bound b.steel_under_the_bound i }

-- where neither of two lists comes before the other, the first numbers are equal, and neither rest comes before the other
level : {P Q : Type 0} (x y : ℕ) → ((x < y) ⊎ ((x ≡ y) × P) → ⊥) → ((y < x) ⊎ ((y ≡ x) × Q) → ⊥) → (x ≡ y) × (P → ⊥) × (Q → ⊥)
level x y h k =
    let a : x < y → ⊥ = λ l. h (inl l) in
    let b : y < x → ⊥ = λ l. k (inl l) in
    let e : x ≡ y = omega (arith, a, b) in
    (e, λ p. h (inr (e, p)), λ q. k (inr (sym e, q)))

same : (beam : Beam) (c d : Cage) → (Better beam c d → ⊥) → (Better beam d c → ⊥) → c ≡ d
same beam c d h k =
    let w = level _ _ h k in
    let a = level _ _ w.1 w.2 in
    let b = level _ _ a.1 a.2 in
    let e = level _ _ b.1 b.2 in
    let f = level _ _ e.1 e.2 in
    let g = level _ _ f.1 f.2 in
    let l = level _ _ g.1 g.2 in
    same_cage c d (same_bars _ _ a.0 b.0) (same_bars _ _ e.0 f.0) (same_ties _ _ g.0 l.0)

pub one_decision : (answer : Beam → Cage → ℕ) (got : Kind → ℕ → Bool) (beam : Beam) (r s : Decision)
    → Lightest answer got beam r
    → Lightest answer got beam s
    → r ≡ s
one_decision answer got beam (Chosen x) (Chosen y) p q =
    let e = same beam x.cage y.cage (q.3 x.cage p.0 p.1) (p.3 y.cage q.0 q.1) in
    ap Chosen (same_choice x y e (p.2 ∙ ap (steel beam) e ∙ sym q.2))
one_decision answer got beam (Chosen x) (Impossible n) p q = absurd ((q.0 x.cage p.0).0 p.1)
one_decision answer got beam (Impossible n) (Chosen x) p q = absurd ((p.0 x.cage q.0).0 q.1)
one_decision answer got beam (Impossible n) (Impossible m) p q =
    let le : n ≤ m =
    elim p.1 [
      | inl x ↦ omega (arith, (q.0 x.0 x.1.0).1, x.1.1)
      | inr z ↦ omega (arith, z.0)
    ] in
    let ge : m ≤ n =
    elim q.1 [
      | inl x ↦ omega (arith, (p.0 x.0 x.1.0).1, x.1.1)
      | inr z ↦ omega (arith, z.0)
    ] in
    let e : n ≡ m = omega arith in
    ap Impossible e

-- all places done, no other decision is right
pub only_settled : (answer : Beam → Cage → ℕ) (got : Kind → ℕ → Bool) (beam : Beam) (s r : Decision) → Step answer got beam (Impossible 0) r
    → Done answer beam (FromStock got) r → Lightest answer got beam s → s ≡ r
only_settled answer got beam s r step done right = one_decision answer got beam s r right (settled answer got beam r step done)
