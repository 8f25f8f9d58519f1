use Rattle.pages.proofs.Tries.{tries_begin, tries_line, tries_total}
use Rattle.pages.proofs.tried.stepped.Goals as goal

pub returns-in-Begin : goal.returns-in-Begin
returns-in-Begin c = record {
  step_after_the_lines = tries_begin c.args.case.now c.args.page.now c.min-length.result c.min-length.ensures c.begun.new.page c.begun.result
      c.in-Begin.is c.begun.ensures.begun_or_refused;
}

pub returns-in-Line : goal.returns-in-Line
returns-in-Line c = record {
  step_after_the_lines = tries_line c.args.case.now c.args.page.now c.min-length.result c.min-length.ensures c.lined.new.page c.lined.result
      c.filled-bill.new.page c.filled-bill.result c.filled-bill.ensures c.in-Line.is c.lined.ensures.line_added_or_refused;
}

pub returns-in-Total : goal.returns-in-Total
returns-in-Total c = record {
  step_after_the_lines = tries_total c.args.case.now c.args.page.now c.min-length.result c.min-length.ensures c.totalled.new.page c.totalled.result
      c.filled-bill-in-Total.new.page c.filled-bill-in-Total.result c.filled-bill-in-Total.ensures c.in-Total.is c.totalled.ensures.total_added_or_refused;
}
