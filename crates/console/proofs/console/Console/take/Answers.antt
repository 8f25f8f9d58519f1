use Rattle.std.proofs.Common.{rules, refl, subst}
use Rattle.console.specs.Orders.{NoOrder}
use Rattle.console.proofs.Taking.{ignores, stops, holds, answers, prints}
use Rattle.console.proofs.Stopping.{prints_alone}
use Rattle.console.proofs.console.Console.take.Goals as goal

pub returns-then-self-clause-history_goes_on_by_this_byte : goal.returns-then-self-clause-history_goes_on_by_this_byte
returns-then-self-clause-history_goes_on_by_this_byte g c =
    ignores (g.P.Book.answer c.args.self.now.sheet.pile) c.args.self.now _ c.args.byte c.if-self.true refl

pub returns-then-not-is_letter-clause-history_goes_on_by_this_byte : goal.returns-then-not-is_letter-clause-history_goes_on_by_this_byte
returns-then-not-is_letter-clause-history_goes_on_by_this_byte g c =
    stops (g.P.Book.answer c.args.self.now.sheet.pile) c.args.self.now _ c.args.byte c.if-self.false refl refl (search rules) (search rules)

pub returns-in_err-call-clause-history_goes_on_by_this_byte : goal.returns-in_err-call-clause-history_goes_on_by_this_byte
returns-in_err-call-clause-history_goes_on_by_this_byte g c =
    holds (g.P.Book.answer c.args.self.now.sheet.pile) c.args.self.now _ c.args.byte c.if-self.false refl refl (search rules)
    (subst NoOrder c.as_slice.ensures.value c.in_err-call.ensures.first_order) c.from_residual.result c.from_residual.ensures

pub returns-clause-history_goes_on_by_this_byte : goal.returns-clause-history_goes_on_by_this_byte
returns-clause-history_goes_on_by_this_byte g c =
    answers (g.P.Book.answer c.args.self.now.sheet.pile) c.args.self.now _ c.args.byte c.line_of-line.result c.in_ok-call.call c.in_ok-call.field-0-1.now
    c.make.result c.as_slice.result.now c.make.new.self.table c.if-self.false refl refl c.clear.ensures (search rules) c.in_ok-call.ensures.first_order
    c.make.ensures.as_the_call c.make.ensures.as_the_calls_before_determine c.line_of-line.ensures

pub returns-then-self-clause-lines_of_the_orders_that_stand_whole : goal.returns-then-self-clause-lines_of_the_orders_that_stand_whole
returns-then-self-clause-lines_of_the_orders_that_stand_whole g c =
    prints (g.P.Book.answer c.args.self.now.sheet.pile) c.args.self.now _ c.args.byte _ (returns-then-self-clause-history_goes_on_by_this_byte g c)

pub returns-then-not-is_letter-clause-lines_of_the_orders_that_stand_whole : goal.returns-then-not-is_letter-clause-lines_of_the_orders_that_stand_whole
returns-then-not-is_letter-clause-lines_of_the_orders_that_stand_whole g c =
    prints (g.P.Book.answer c.args.self.now.sheet.pile) c.args.self.now _ c.args.byte _ (returns-then-not-is_letter-clause-history_goes_on_by_this_byte g c)

pub returns-in_err-call-clause-lines_of_the_orders_that_stand_whole : goal.returns-in_err-call-clause-lines_of_the_orders_that_stand_whole
returns-in_err-call-clause-lines_of_the_orders_that_stand_whole g c =
    prints (g.P.Book.answer c.args.self.now.sheet.pile) c.args.self.now _ c.args.byte c.from_residual.result (returns-in_err-call-clause-history_goes_on_by_this_byte g c)

pub returns-clause-lines_of_the_orders_that_stand_whole : goal.returns-clause-lines_of_the_orders_that_stand_whole
returns-clause-lines_of_the_orders_that_stand_whole g c =
    prints (g.P.Book.answer c.args.self.now.sheet.pile) c.args.self.now _ c.args.byte c.line_of-line.result (returns-clause-history_goes_on_by_this_byte g c)

pub returns-then-self-clause-no_other_lines : goal.returns-then-self-clause-no_other_lines
returns-then-self-clause-no_other_lines g c =
    prints_alone (g.P.Book.answer c.args.self.now.sheet.pile) c.args.self.now _ c.args.byte _ (returns-then-self-clause-history_goes_on_by_this_byte g c)

pub returns-then-not-is_letter-clause-no_other_lines : goal.returns-then-not-is_letter-clause-no_other_lines
returns-then-not-is_letter-clause-no_other_lines g c =
    prints_alone (g.P.Book.answer c.args.self.now.sheet.pile) c.args.self.now _ c.args.byte _ (returns-then-not-is_letter-clause-history_goes_on_by_this_byte g c)

pub returns-in_err-call-clause-no_other_lines : goal.returns-in_err-call-clause-no_other_lines
returns-in_err-call-clause-no_other_lines g c =
    prints_alone (g.P.Book.answer c.args.self.now.sheet.pile) c.args.self.now _ c.args.byte c.from_residual.result (returns-in_err-call-clause-history_goes_on_by_this_byte g c)

pub returns-clause-no_other_lines : goal.returns-clause-no_other_lines
returns-clause-no_other_lines g c =
    prints_alone (g.P.Book.answer c.args.self.now.sheet.pile) c.args.self.now _ c.args.byte c.line_of-line.result (returns-clause-history_goes_on_by_this_byte g c)
