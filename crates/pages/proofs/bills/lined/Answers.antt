use Rattle.std.proofs.Common.{Ok, Err}
use Rattle.pages.proofs.Steps.{keeps_line}
use Rattle.pages.proofs.bills.lined.Goals as goal

pub returns-in-Ok-clause-line_added_or_refused : goal.returns-in-Ok-clause-line_added_or_refused
returns-in-Ok-clause-line_added_or_refused c =
    rw c.in-Begun.is (Ok c.in-Ok.longer, (c.taken.ensures, c.in-Ok.ensures.line_on_the_page_or_handed_back))

pub returns-in-Ok-clause-lines_kept_and_one_more : goal.returns-in-Ok-clause-lines_kept_and_one_more
returns-in-Ok-clause-lines_kept_and_one_more c =
    keeps_line c.args.page.now c.line.new.page c.args.bill c.taken.result c.args.reading.now (returns-in-Ok-clause-line_added_or_refused c)

pub returns-in-Err-clause-line_added_or_refused : goal.returns-in-Err-clause-line_added_or_refused
returns-in-Err-clause-line_added_or_refused c =
    rw c.in-Begun.is (Err c.in-Err.refused, (c.handed_back.ensures, c.in-Err.ensures.line_on_the_page_or_handed_back))
