-- What one more cage does to a decision.
use Rattle.std.proofs.Common.{◌≡◌, ◌≤◌, ℕ, max, Bool, List, [], ◌∷◌, ◌∙◌, sym, ap, refl, inl, inr, arith}
use native.Mathlib.Decide.{dec_le}
use Rattle.rebar.specs.declared.beam.Beam.{Beam}
use Rattle.rebar.specs.declared.cage.Cage.{Cage}
use Rattle.rebar.specs.Order.{numbers, Before}
use Rattle.rebar.specs.Steel.{steel}
use Rattle.books.specs.Answers.{Passes, with_ties, AtEverySpacing}
use Rattle.stock.specs.declared.kind.Kind.{Kind}
use Rattle.search.specs.declared.decision.Choice.{Choice}
use Rattle.search.specs.declared.decision.Decision.{Decision}
use Rattle.search.specs.declared.decision.Decision.TheVariants.{Chosen, Impossible}
use Rattle.search.specs.Lightest.{FromStock}
use Rattle.search.specs.Search.{Lighter, Covers, Step, Done, StandsAgainst, IsLike}
use Rattle.rebar.proofs.Same.{same_cage}

before_trans : (xs ys zs : List ℕ) → Before xs ys → Before ys zs → Before xs zs
before_trans [] [] zs h k = absurd h
before_trans [] (y ∷ ys) [] h k = absurd k
before_trans [] (y ∷ ys) (z ∷ zs) h k = tt
before_trans (x ∷ xs) [] zs h k = absurd h
before_trans (x ∷ xs) (y ∷ ys) [] h k = absurd k
before_trans (x ∷ xs) (y ∷ ys) (z ∷ zs) (inl h) (inl k) = inl (omega arith)
before_trans (x ∷ xs) (y ∷ ys) (z ∷ zs) (inl h) (inr k) = inl (omega (arith, k.0))
before_trans (x ∷ xs) (y ∷ ys) (z ∷ zs) (inr h) (inl k) = inl (omega (arith, h.0))
before_trans (x ∷ xs) (y ∷ ys) (z ∷ zs) (inr h) (inr k) = inr (h.0 ∙ k.0, before_trans xs ys zs h.1 k.1)

module _ (answer : Beam → Cage → ℕ) (got : Kind → ℕ → Bool) (beam : Beam) (best : Decision) where
  -- a lighter cage that passes takes the place of the chosen one
  pub replaced : (x y : Choice) → best ≡ Chosen x → Lighter y.steel y.cage x
      → FromStock got y.cage → Passes answer beam y.cage → y.steel ≡ steel beam y.cage
      → Step answer got beam best (Chosen y)
  replaced x y is less f p e =
      rw is
      record {
        sound = λ _. (f, p, e);
        keeps = λ d old q h. old q (before_trans (steel beam d ∷ numbers d) (y.steel ∷ numbers y.cage) (x.steel ∷ numbers x.cage) h less);
      }

  -- one more cage is refused, where every one was refused before
  pub refused : (n m : ℕ) (cage : Cage) → best ≡ Impossible n → (Passes answer beam cage → ⊥) → m ≡ max n (answer beam cage)
      → FromStock got cage
      → Step answer got beam best (Impossible m)
  refused n m cage is not e f =
      rw is
      record {
        sound = λ s. elim (dec_le n (answer beam cage)) [ yes h ↦ inr (cage, (f, omega arith)) | no h ↦ let k : m ≡ n = omega arith in rw k s ];
        keeps = λ d s. (s.0, omega arith);
      }

  -- a cage that is refused so at every spacing
  module _ (cage : Cage) (m : ℕ) (everywhere : AtEverySpacing answer beam cage m) where
    -- the cages like it are refused by the same number
    like : (d : Cage) → IsLike cage d → answer beam d ≡ m
    like d l = ap (answer beam) (same_cage d (with_ties cage d.ties) l.0 l.1 refl) ∙ everywhere.1 d.ties l.2

    not_passed : (d : Cage) → IsLike cage d → Passes answer beam d → ⊥
    not_passed d l p = everywhere.0 (sym (like d l) ∙ p)

    -- is one more refusal, where every one was refused before
    pub refused_so : (n k : ℕ) → best ≡ Impossible n → k ≡ max n m → FromStock got cage → Step answer got beam best (Impossible k)
    refused_so n k is e f =
        let here : answer beam cage ≡ m = like cage (refl, refl, refl) in
        refused n k cage is (not_passed cage (refl, refl, refl)) (e ∙ ap (max n) (sym here)) f

    pub none_like : (n k : ℕ) → k ≡ max n m → Done answer beam (IsLike cage) (Impossible k)
    none_like n k e = λ d l. let there = like d l in (not_passed d l, omega (arith, there))

    pub none_better : (x : Choice) → Done answer beam (IsLike cage) (Chosen x)
    none_better x = λ d l p h. not_passed d l p

-- no cage of so much steel is better than a chosen one with less
pub too_heavy : (answer : Beam → Cage → ℕ) (beam : Beam) (best : Decision) (floor : ℕ) (d : Cage) → StandsAgainst floor best
    → floor ≤ steel beam d → Covers answer beam best d
too_heavy answer beam (Chosen x) floor d less le = λ _ h. elim h [ inl l ↦ omega (arith, l, less, le) | inr e ↦ omega (arith, e.0, less, le) ]
too_heavy answer beam (Impossible n) floor d less le = absurd less
