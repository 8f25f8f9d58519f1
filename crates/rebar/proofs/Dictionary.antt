-- The library's order of lists is the order of words in a dictionary, and so is that of cages.
use Rattle.std.proofs.Common.{◌≡◌, ◌∙◌, ap, Bool, IsTrue, nat_eq, Option, IsSomeAnd, ℕ, ◌<◌, Ordering, Less, Equal, Greater, List, [], ◌∷◌, inl, inr, refl, sym, subst}
use Rattle.std.specs.Ordering.{on, as_partial_cmp, ordering_then, MatchOrdering, nat_cmp}
use Rattle.std.specs.Cmp.{ranks}
use Rattle.std.specs.Cmp.Lexicographic.{pointwise, slice_cmp, bytes_decides}
use Rattle.rebar.specs.declared.cage.Cage.{Cage}
use Rattle.rebar.specs.Order.{numbers, Before, Smaller}
use Rattle.rebar.proofs.Same.{same_numbers}

pub by_words : (xs ys : List ℕ) → MatchOrdering (slice_cmp nat_cmp xs ys) (Before xs ys) (xs ≡ ys) (Before ys xs)
by_words [] [] = refl
by_words [] (y ∷ ys) = tt
by_words (x ∷ xs) [] = tt
by_words (x ∷ xs) (y ∷ ys) = step (nat_cmp x y) (slice_cmp nat_cmp xs ys) (ranks x y) (by_words xs ys)
  where
    step : (o p : Ordering) → MatchOrdering o (x < y) (x ≡ y) (y < x) → MatchOrdering p (Before xs ys) (xs ≡ ys) (Before ys xs)
        → MatchOrdering (ordering_then o p) (Before (x ∷ xs) (y ∷ ys)) ((x ∷ xs) ≡ (y ∷ ys)) (Before (y ∷ ys) (x ∷ xs))
    step Less p h k = inl h
    step Greater p h k = inl h
    step Equal Less h k = inr (h, k)
    step Equal Equal h k = cc
    step Equal Greater h k = inr (sym h, k)

-- so of two cages
pub smaller_cage : (c d : Cage) (r : Ordering) → r ≡ on numbers (slice_cmp nat_cmp) c d → MatchOrdering r (Smaller c d) (c ≡ d) (Smaller d c)
smaller_cage c d r e = subst (λ o. MatchOrdering o (Smaller c d) (c ≡ d) (Smaller d c)) (sym e) (same _ (by_words (numbers c) (numbers d)))
  where
    same : (o : Ordering) → MatchOrdering o (Smaller c d) (numbers c ≡ numbers d) (Smaller d c) → MatchOrdering o (Smaller c d) (c ≡ d) (Smaller d c)
    same Less h = h
    same Equal h = same_numbers c d h
    same Greater h = h

pub smaller_partly : (c d : Cage) (r : Option Ordering) → r ≡ as_partial_cmp (on numbers (slice_cmp nat_cmp)) c d
    → IsSomeAnd r (λ o. MatchOrdering o (Smaller c d) (c ≡ d) (Smaller d c))
smaller_partly c d r e =
    subst (λ a. IsSomeAnd a (λ o. MatchOrdering o (Smaller c d) (c ≡ d) (Smaller d c))) (sym e) (smaller_cage c d _ refl)

pub same_cage_exactly : (c d : Cage) (r : Bool) → r ≡ on numbers (pointwise nat_eq) c d → (IsTrue r → c ≡ d) × (c ≡ d → IsTrue r)
same_cage_exactly c d r e =
    let decides = bytes_decides (numbers c) (numbers d) in
    (λ h. same_numbers c d (decides.0 (sym e ∙ h)), λ same. e ∙ decides.1 (ap numbers same))
