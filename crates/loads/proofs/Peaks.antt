-- The greatest and the least of some sums, and what they say of the sums' sizes.
use Rattle.std.proofs.Common.{◌≡◌, ℕ, ◌≤◌, max, ◌⊎◌, List, [], ◌∷◌, map, ℤ, pos, negsuc, neg_ℤ, nat_abs, ◌≤ℤ◌, fold, sym, refl, ap, ◌∙◌, inl, inr, arith}
use Rattle.std.specs.Int.{int_max, int_min}
use Rattle.std.proofs.lemmas.Int.{ints, clamps}
use Rattle.std.proofs.ByRecursion.{folded_max_z_bounds, folded_max_z_reached, all-has}
use Rattle.std.specs.List.{ContainsAt, AllByRecursion}
use Rattle.loads.specs.Combinations.{greatest, least, unsigned}
use Rattle.loads.specs.Actions.{Peak}

most_up : (a : ℤ) (xs : List ℤ) → pos 0 ≤ℤ a → pos 0 ≤ℤ fold int_max a xs
most_up a [] h = h
most_up a (x ∷ xs) h = most_up (int_max a x) xs (omega (arith, ints, clamps))

least_down : (a : ℤ) (xs : List ℤ) → a ≤ℤ pos 0 → fold int_min a xs ≤ℤ pos 0
least_down a [] h = h
least_down a (x ∷ xs) h = least_down (int_min a x) xs (omega (arith, ints, clamps))

negated : (a : ℤ) (xs : List ℤ) → neg_ℤ (fold int_min a xs) ≡ fold int_max (neg_ℤ a) (map neg_ℤ xs)
negated a [] = refl
negated a (x ∷ xs) = negated (int_min a x) xs ∙ ap (λ s. fold int_max s (map neg_ℤ xs)) (turn a x)
  where
    turn : (a x : ℤ) → neg_ℤ (int_min a x) ≡ int_max (neg_ℤ a) (neg_ℤ x)
    turn a x = omega (arith, ints, clamps)

wider : (a b x : ℤ) → pos 0 ≤ℤ a → b ≤ℤ pos 0 → int_max (int_max a (neg_ℤ b)) (unsigned x) ≡ int_max (int_max a x) (neg_ℤ (int_min b x))
wider a b (pos n) h k = omega (arith, ints, clamps)
wider a b (negsuc n) h k = omega (arith, ints, clamps)

sizes : (a b : ℤ) (xs : List ℤ) → pos 0 ≤ℤ a → b ≤ℤ pos 0
    → fold int_max (int_max a (neg_ℤ b)) (map unsigned xs) ≡ int_max (fold int_max a xs) (neg_ℤ (fold int_min b xs))
sizes a b [] h k = refl
sizes a b (x ∷ xs) h k =
    ap (λ s. fold int_max s (map unsigned xs)) (wider a b x h k)
    ∙ sizes (int_max a x) (int_min b x) xs (omega (arith, ints, clamps)) (omega (arith, ints, clamps))

up_size : (z : ℤ) → pos 0 ≤ℤ z → pos (nat_abs z) ≡ z
up_size (pos n) h = refl
up_size (negsuc n) h = omega (arith, ints)

down_size : (z : ℤ) → z ≤ℤ pos 0 → pos (nat_abs z) ≡ neg_ℤ z
down_size (pos n) h = omega (arith, ints)
down_size (negsuc n) h = refl

joint_size : (y z : ℤ) → pos 0 ≤ℤ y → z ≤ℤ pos 0 → pos (max (nat_abs y) (nat_abs z)) ≡ int_max y (neg_ℤ z)
joint_size y z h k = let p = up_size y h in let q = down_size z k in omega (arith, ints, clamps)

-- the greatest, from the size of the greatest
pub most_size : (r : ℕ) (z : ℤ) (xs : List ℤ) → r ≡ nat_abs z → z ≡ greatest xs → pos r ≡ greatest xs
most_size r z xs s e = rw (s, e) (up_size _ (most_up (pos 0) xs (omega (arith, ints))))

-- the greatest negated one, from the size of the least
pub least_size : (r : ℕ) (z : ℤ) (xs : List ℤ) → r ≡ nat_abs z → z ≡ least xs → pos r ≡ greatest (map neg_ℤ xs)
least_size r z xs s e = rw (s, e) (down_size _ (least_down (pos 0) xs (omega (arith, ints))) ∙ negated (pos 0) xs)

-- the greatest without its sign, from both
pub whole_size : (r : ℕ) (y z : ℤ) (xs : List ℤ) → r ≡ max (nat_abs y) (nat_abs z) → y ≡ greatest xs → z ≡ least xs → pos r ≡ greatest (map unsigned xs)
whole_size r y z xs s e f =
    rw (s, e, f) (joint_size _ _ (most_up (pos 0) xs (omega (arith, ints))) (least_down (pos 0) xs (omega (arith, ints)))
    ∙ sym (sizes (pos 0) (pos 0) xs (omega (arith, ints)) (omega (arith, ints))))

pub peak : (xs : List ℤ) (r : ℕ) → pos r ≡ greatest xs → Peak xs r
peak xs r e = record { most = (folded_max_z_bounds (pos 0) xs (pos r) e).1; met = reached (folded_max_z_reached (pos 0) xs (pos r) e) }
  where
    reached : (pos r ≡ pos 0) ⊎ ContainsAt xs (pos r) → (r ≡ 0) ⊎ ContainsAt xs (pos r)
    reached (inl z) = inl (cc)
    reached (inr h) = inr h

-- what is reached by numbers within a bound is within it
pub bounded : (k : ℕ) (xs : List ℤ) (r : ℕ) → AllByRecursion (λ x. x ≤ℤ pos k) xs → pos r ≡ greatest xs → r ≤ k
bounded k xs r all e = within (peak xs r e).met
  where
    within : (r ≡ 0) ⊎ ContainsAt xs (pos r) → r ≤ k
    within (inl z) = omega arith
    within (inr h) = omega (arith, ints, all-has (λ x. x ≤ℤ pos k) xs (pos r) all h)
