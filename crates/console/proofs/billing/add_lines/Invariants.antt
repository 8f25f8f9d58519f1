use Rattle.sheet.specs.Shown.{shown_at}
use Rattle.sheet.specs.Size.{place_count}
use Rattle.std.proofs.Common.{◌≤◌}
use Rattle.console.specs.Billing.{Billed}
use Rattle.console.proofs.billing.add_lines.Given as goal

abbrev pub invariant-loop-place : goal.invariant-loop-place
invariant-loop-place g l = (l.place ≤ place_count) × Billed (shown_at l.sheet) l.place l.page l.bill
