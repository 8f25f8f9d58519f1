use Rattle.std.proofs.Common.{Ok}
use Rattle.pages.proofs.Steps.{keeps_total}
use Rattle.pages.proofs.bills.totalled.Goals as goal

pub returns-in-Ok-clause-lines_kept : goal.returns-in-Ok-clause-lines_kept
returns-in-Ok-clause-lines_kept c =
    keeps_total c.args.page.now c.total.new.page c.args.bill c.taken.result
    (rw c.in-Begun.is (Ok c.in-Ok.ended, (c.taken.ensures, c.in-Ok.ensures.total_on_the_page_or_handed_back)))
