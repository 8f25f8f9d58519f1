use Rattle.stock.specs.Stock.{has}
use Rattle.search.specs.Search.{Step}
use Rattle.search.proofs.lightest.Search.weigh_twins.Given as goal

abbrev pub invariant-loop-bars : goal.invariant-loop-bars
invariant-loop-bars g l =
    Step (g.P.Book.answer l.self.pile.now) (has l.self.stock.now) l.self.beam.now l.initial.found l.found
