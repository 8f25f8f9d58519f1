use Rattle.std.proofs.Common.{rules, ◌+◌, ◌∙◌, sym, refl}
use Rattle.sheet.specs.Shown.{shown_at}
use Rattle.console.proofs.Room.{line_more, line_fits, left_out, no_line}
use Rattle.console.proofs.billing.add_line.Goals as goal

pub returns-in-Ok-line : goal.returns-in-Ok-line
returns-in-Ok-line g c =
    line_more c.args.bill c.in-Ok-line.longer c.args.page.now c.line.new.page (shown_at c.args.sheet.now) c.args.place c.in-Ok.reading
    c.line.auto.page (search rules) (search rules) c.in-Ok-line.ensures.line_on_the_page_or_handed_back
    c.in-Ok-line.ensures.bill_of_one_line_more c.requires.lines_so_far

pub returns-in-Err : goal.returns-in-Err
returns-in-Err g c =
    absurd (line_fits c.args.bill c.args.page.now c.line.new.page (shown_at c.args.sheet.now) c.args.place c.in-Ok.reading c.in-Some.field-0 c.in-Err.field-0
    c.requires.there (sym c.choice.ensures.the_cage_that_is_shown ∙ c.in-Some.is) c.in-Err.ensures.line_on_the_page_or_handed_back c.requires.lines_so_far)

pub returns-in-None : goal.returns-in-None
returns-in-None g c =
    left_out c.args.bill c.args.page.now (shown_at c.args.sheet.now) c.args.place (c.args.place + 1) c.in-Ok.reading.shown refl (search rules)
    (no_line c.args.place c.in-Ok.reading.shown (sym c.choice.ensures.the_cage_that_is_shown ∙ c.in-None.is)) c.requires.lines_so_far
