use Rattle.sheet.specs.Shown.{shown_at}
use Rattle.console.proofs.Room.{ended_bill, total_fits}
use Rattle.console.proofs.billing.total.Goals as goal

pub returns-in-Ok-clause-text : goal.returns-in-Ok-clause-text
returns-in-Ok-clause-text g c =
    rw c.written.ensures.bytes_written
    (ended_bill c.args.page.now c.total.new.page (shown_at c.args.sheet.now) c.total.auto.page c.args.bill c.in-Ok.totalled
    c.in-Ok.ensures.whole_bill_of_its_lines c.in-Ok.ensures.total_on_the_page_or_handed_back c.requires).0

pub returns-in-Err-clause-text : goal.returns-in-Err-clause-text
returns-in-Err-clause-text g c =
    absurd (total_fits c.args.page.now c.total.new.page (shown_at c.args.sheet.now) c.total.auto.page c.args.bill c.in-Err.field-0
    c.in-Err.ensures.total_on_the_page_or_handed_back c.requires)
