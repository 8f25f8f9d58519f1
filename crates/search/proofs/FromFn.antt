-- What the elements of an array are that a closure made, where no call changes the closure.
use Rattle.std.proofs.Common.{◌≡◌, ℕ, suc, zero, ◌+◌, ◌<◌, ◌≤◌, List, get_or, sym, subst, arith}
use Rattle.std.specs.Array.{IsFromFnResult, IsFromFnResultFrom}
use Rattle.std.specs.Fn.{Called}
use denote.Param.Members.{Mut}
use native.Mathlib.Decide.{dec_lt}

module _ {F B : Type 0} (g : Mut F (ℕ × Unit {0}) B) (f : F) (P : ℕ → B → Type 0)
    (call : (i : ℕ) (y : B) (q : F) → Called g f (i, tt) y q → P i y × (q ≡ f)) (ys : List B) where
  made_from : (n i : ℕ) → IsFromFnResultFrom g f ys i n → (k : ℕ) (d : B) → i ≤ k → k < i + n → P k (get_or ys k d)
  made_from zero i h k d low high = absurd (omega arith)
  made_from (suc n) i h k d low high =
      let one = call i h.1 h.0 h.3 in
      elim (dec_lt i k) [
        | yes l ↦ made_from n (i + 1) (subst (λ q. IsFromFnResultFrom g q ys (i + 1) n) one.1 h.4) k d (omega arith) (omega arith)
        | no l ↦
            let here : i ≡ k = omega arith in
            subst (λ j. P j (get_or ys j d)) here (subst (P i) (sym (h.2.1 d)) one.0)
      ]

  pub made_same : (n : ℕ) → IsFromFnResult g f ys n → (k : ℕ) (d : B) → k < n → P k (get_or ys k d)
  made_same n h k d lt = made_from n 0 h.each k d (omega arith) (omega arith)
