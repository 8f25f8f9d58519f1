use Rattle.std.proofs.Common.{rules, None}
use Rattle.sheet.specs.declared.call.Call.TheVariants as call
use Rattle.sheet.proofs.Runs.{grows}
use Rattle.sheet.proofs.sheet.Sheet.design.Goals as goal

pub returns-clause-lightest_stored_or_nothing_changed : goal.returns-clause-lightest_stored_or_nothing_changed
returns-clause-lightest_stored_or_nothing_changed g c = (
  search rules,
  (c.in_ok-entry.entry.beam, (c.lightest_cage-decision.result, (search rules, c.lightest_cage-decision.ensures.lightest_or_none, search rules))),
)

pub returns-clause-history_grows_by_this_call : goal.returns-clause-history_grows_by_this_call
returns-clause-history_grows_by_this_call g c =
    grows (g.P.Book.answer c.args.self.now.pile) c.args.self.now.table (call.Design c.args.place) None c.settle.new.self
    (returns-clause-lightest_stored_or_nothing_changed g c)
