use Rattle.std.proofs.Common.{rules}
use Rattle.console.proofs.Taking.{opened}
use Rattle.console.proofs.console.Console.open.Goals as goal

pub returns-clause-history_begins : goal.returns-clause-history_begins
returns-clause-history_begins g c =
    opened (g.P.Book.answer c.args.pile) c.open.result.table c.new.result.items c.open.ensures.all_places_empty_and_no_stock (search rules)
