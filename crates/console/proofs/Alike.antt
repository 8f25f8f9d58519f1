-- Where in memory the card of a call lies makes no difference: neither to what the call does, nor to what it is answered, nor to
-- its line.
use Rattle.std.proofs.Common.{◌≡◌, ℕ, List, Option, Result, sym, refl, subst}
use Rattle.std.specs.Borrow.{Bor}
use Rattle.rebar.specs.declared.beam.Beam.{Beam}
use Rattle.rebar.specs.declared.cage.Cage.{Cage}
use Rattle.sheet.specs.declared.call.Answer.{Answer}
use Rattle.sheet.specs.declared.call.Call.{Call}
use Rattle.sheet.specs.declared.call.Call.TheVariants.{Enter, Correct}
use Rattle.sheet.specs.declared.refusal.Refusal.{Refusal}
use Rattle.sheet.specs.declared.table.Table.{Table}
use Rattle.sheet.specs.Calls.{Makes}
use Rattle.sheet.specs.Law.{Answers}
use Rattle.console.specs.Lines.{head_of}

-- the bytes of a card, nowhere
abbrev pub nowhere : List ℕ → Bor (List ℕ)
nowhere card = record { ref_ptr = (0, 0); now = card }

-- a call without where its card lies
abbrev pub plain : Call → Call
plain (Enter p card) = Enter p (nowhere card.now)
plain (Correct p card) = Correct p (nowhere card.now)
plain call = call

-- what is the same of a call and of the plain one holds of two calls alike
pub alike : (F : Call → Type 0) → ((c : Call) → F (plain c) ≡ F c) → (c d : Call) → plain c ≡ plain d → F c → F d
alike F same c d e x = subst (λ (T : Type 0). T) (same d) (subst F e (subst (λ (T : Type 0). T) (sym (same c)) x))

pub same_head : (c : Call) → head_of (plain c) ≡ head_of c
same_head (Enter p card) = refl
same_head (Correct p card) = refl
same_head c = refl

module _ (pile : Beam → Cage → ℕ) where
  makes : (t t' : Table) (e : Option Refusal) (c : Call) → Makes pile t (plain c) e t' ≡ Makes pile t c e t'
  makes t t' e (Enter p card) = refl
  makes t t' e (Correct p card) = refl
  makes t t' e c = refl

  answers : (calls : List Call) (r : Result Answer Refusal) (c : Call) → Answers pile calls (plain c) r ≡ Answers pile calls c r
  answers calls r (Enter p card) = refl
  answers calls r (Correct p card) = refl
  answers calls r c = refl

  pub alike_makes : (t t' : Table) (e : Option Refusal) (c d : Call) → plain c ≡ plain d → Makes pile t c e t' → Makes pile t d e t'
  alike_makes t t' e = alike (λ c. Makes pile t c e t') (makes t t' e)

  pub alike_answers : (calls : List Call) (r : Result Answer Refusal) (c d : Call) → plain c ≡ plain d → Answers pile calls c r
      → Answers pile calls d r
  alike_answers calls r = alike (λ c. Answers pile calls c r) (answers calls r)
