use Rattle.std.proofs.Common.{refl}
use Rattle.stock.proofs.Marks.{some_from_contains}
use Rattle.stock.proofs.stock.Stock.offers_cages.Goals as goal

pub returns-then-contains : goal.returns-then-contains
returns-then-contains c =
    let main = some_from_contains c.args.self.now.main in
    let tie = some_from_contains c.args.self.now.tie in
    record {
      whether_a_mark_of_each_kind_is_in =
          rw (← main, ← c.contains.ensures.value, c.if-contains.true, ← tie, c.contains-then-contains.ensures.value) refl;
    }

pub returns-else-contains : goal.returns-else-contains
returns-else-contains c =
    let main = some_from_contains c.args.self.now.main in
    record { whether_a_mark_of_each_kind_is_in = rw (← main, ← c.contains.ensures.value, c.if-contains.false) refl }
