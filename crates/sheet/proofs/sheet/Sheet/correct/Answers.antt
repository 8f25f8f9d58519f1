use Rattle.std.proofs.Common.{rules, None, Ok}
use Rattle.sheet.specs.declared.call.Call.TheVariants as call
use Rattle.sheet.proofs.Runs.{grows}
use Rattle.sheet.proofs.CardsPut.{corrected}
use Rattle.sheet.proofs.sheet.Sheet.correct.Goals as goal

pub returns-clause-beam_replaced_and_open_or_nothing_changed : goal.returns-clause-beam_replaced_and_open_or_nothing_changed
returns-clause-beam_replaced_and_open_or_nothing_changed g c =
    rw c.in_ok-place.ensures at
    (corrected (g.P.Book.answer c.args.self.now.pile) c.args.self.now.table c.put_card.new.self c.in_ok-place.place.number c.args.card (Ok c.in_ok-put_card.field-0)
    c.in_ok-place.place.on_the_sheet (search rules) c.in_ok-put_card.ensures)

pub returns-clause-history_grows_by_this_call : goal.returns-clause-history_grows_by_this_call
returns-clause-history_grows_by_this_call g c =
    grows (g.P.Book.answer c.args.self.now.pile) c.args.self.now.table (call.Correct c.args.place c.args.card) None c.put_card.new.self (returns-clause-beam_replaced_and_open_or_nothing_changed g c)
