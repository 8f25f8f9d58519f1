use Rattle.std.proofs.Common.{rules, None}
use Rattle.sheet.specs.declared.call.Call.TheVariants as call
use Rattle.sheet.proofs.Runs.{grows}
use Rattle.sheet.proofs.sheet.Sheet.stock.Goals as goal

pub returns-clause-history_grows_by_this_call : goal.returns-clause-history_grows_by_this_call
returns-clause-history_grows_by_this_call g c =
    grows (g.P.Book.answer c.args.self.now.pile) c.args.self.now.table (call.Stock c.args.kind c.args.mark c.args.is_in) None c.restock.new.self (search rules)
