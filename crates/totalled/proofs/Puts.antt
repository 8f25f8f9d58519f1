-- Texts put on a page one after the other stand there as one.
use Rattle.std.proofs.Common.{◌≡◌, ℕ, ◌+◌, cond, List, ◌++◌, length, nat_lt, Some, None, sym, ap, ◌∙◌, arith, length-append}
use Rattle.bill.proofs.Pages.{has_room, put_more, length_put}
use Rattle.bill.specs.Text.{put}
use Rattle.bill.specs.Steps.{short, Puts}
use Rattle.bill.specs.declared.refusal.Refusal.TheVariants.{PageShort}

-- more text has room on the page where all of it has
short_more : (page a b : List ℕ) → short page 0 a ≡ None → short (put page 0 a) (length a) b ≡ short page 0 (a ++ b)
short_more page a b h =
    ap (λ (n : ℕ). cond (nat_lt n (length a + length b)) (Some PageShort) None) (length_put page a (has_room page a 0 h))
    ∙ ap (λ (n : ℕ). cond (nat_lt (length page) n) (Some PageShort) None) (rw (length-append a b) (omega arith))

-- a text stands at the front of a page, w bytes of it; the other bytes are as they were
pub record At (old new text : List ℕ) (w : ℕ) : Type 0 where
  pub put : new ≡ put old 0 text
  pub long : w ≡ length text
  pub room : short old 0 text ≡ None

pub at_first : (page page' a : List ℕ) (w : ℕ) → short page 0 a ≡ None → Puts page 0 a w page' → At page page' a w
at_first page page' a w h p = record { put = p.0; long = omega (arith, p.1); room = h }

module _ (page page' a b : List ℕ) (w : ℕ) (at : At page page' a w) where
  pub same : short page' w b ≡ short page 0 (a ++ b)
  same = rw (at.put, at.long) (short_more page a b at.room)

  pub at_more : (page'' : List ℕ) (v : ℕ) → short page' w b ≡ None → Puts page' w b v page'' → At page page'' (a ++ b) v
  at_more page'' v h p = record {
    put = p.0 ∙ rw (at.put, at.long) (put_more page a b);
    long = rw (length-append a b) (omega (arith, p.1, at.long));
    room = sym same ∙ h;
  }
