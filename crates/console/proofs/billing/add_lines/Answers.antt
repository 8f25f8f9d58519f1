use Rattle.std.proofs.Common.{◌≡◌, ℕ, subst, arith}
use Rattle.sheet.specs.Shown.{shown_at}
use Rattle.sheet.specs.Size.{place_count}
use Rattle.console.specs.Billing.{Billed}
use Rattle.console.proofs.billing.add_lines.Goals as goal

pub returns : goal.returns
returns g c =
    let e : c.loop-place.place ≡ place_count = omega (arith, c.loop-place.invariant.0, c.loop-place-test.false) in
    subst (λ (n : ℕ). Billed (shown_at c.args.sheet.now) n c.loop-place.page c.loop-place.bill) e c.loop-place.invariant.1
