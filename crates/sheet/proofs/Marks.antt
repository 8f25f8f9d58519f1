-- Marks by the number of their kind.
use Rattle.std.proofs.Common.{◌≡◌, ◌≢◌, ℕ, zero, suc, Bool, true, false, refl, arith}
use Rattle.std.proofs.lemmas.Bool.Decides.{nat_tests}
use Rattle.stock.specs.declared.kind.Kind.{Kind}
use Rattle.stock.specs.declared.kind.Kind.TheVariants.{Main, Tie}
use Rattle.stock.specs.Kinds.{kind_number, known}
use Rattle.sheet.specs.Calls.{is_known}

not_true : (b : Bool) → (b ≢ true) → b ≡ false
not_true true h = absurd (h refl)
not_true false h = refl

-- a mark that no kind of this number knows
pub unknown : (kind mark : ℕ) → ((k : Kind) → kind_number k ≡ kind → known k mark ≢ true) → is_known kind mark ≡ false
unknown zero mark h = not_true (is_known 0 mark) (λ e. h Main refl (grind (arith, e)))
unknown (suc zero) mark h = not_true (is_known 1 mark) (λ e. h Tie refl (grind (arith, e)))
unknown (suc (suc n)) mark h = grind (arith, nat_tests)
