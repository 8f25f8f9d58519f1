use Rattle.std.proofs.Common.{◌≡◌, ◌++◌, take}
use Rattle.bill.specs.Whole.{bill_text}
use Rattle.sheet.specs.Shown.{shown_at}
use Rattle.sheet.specs.Size.{place_count}
use Rattle.console.specs.Bills.{lines_below}
use Rattle.console.proofs.Ending.{is_cut, stop_by, bill_of, both, ends_printed, ends_lightest, ends_alone}
use Rattle.console.proofs.console.Console.end.Given as given
use Rattle.console.proofs.console.Console.end.Goals as goal

-- what is printed at the end is STOP, where it is told, and the bill
together : (g : given.Over) (c : goal.After-append g)
    → c.append.new.ending.items ≡ stop_by (is_cut c.args.self.now.stopped c.args.self.now.pending.items) ++ bill_of c.args.self.now.sheet.table
together g c =
    let self = c.args.self.now in
    both c.is_cut.result self.stopped self.pending.items c.stop_of-ending.result.items (bill_text (lines_below (shown_at self.sheet) place_count)) c.append.new.ending.items
    (take c.write_bill-written.result c.write_bill-written.new.page) c.is_cut.ensures c.stop_of-ending.ensures.text c.write_bill-written.ensures.text c.append.ensures.items

pub returns-clause-lines_and_bill : goal.returns-clause-lines_and_bill
returns-clause-lines_and_bill g c =
    ends_printed (g.P.Book.answer c.args.self.now.sheet.pile) c.args.self.now c.append.new.ending.items (together g c)

pub returns-clause-printed_cages_are_sound_and_lightest : goal.returns-clause-printed_cages_are_sound_and_lightest
returns-clause-printed_cages_are_sound_and_lightest g c =
    ends_lightest (g.P.Book.answer c.args.self.now.sheet.pile) c.args.self.now c.append.new.ending.items (together g c)

pub returns-clause-nothing_else_is_printed : goal.returns-clause-nothing_else_is_printed
returns-clause-nothing_else_is_printed g c =
    ends_alone (g.P.Book.answer c.args.self.now.sheet.pile) c.args.self.now c.append.new.ending.items (together g c)
