use Rattle.std.proofs.Common.{rules}
use Rattle.bill.proofs.Pages.{begins}
use Rattle.bill.proofs.bill.Begun.begin.Goals as goal

pub returns-in_err-written-clause-bill_of_no_line : goal.returns-in_err-written-clause-bill_of_no_line
returns-in_err-written-clause-bill_of_no_line c = begins c.args.page.now c.append.new.page _ (search rules)

pub returns-clause-bill_of_no_line : goal.returns-clause-bill_of_no_line
returns-clause-bill_of_no_line c = begins c.args.page.now c.append.new.page _ (search rules)
