use Rattle.std.proofs.Common.{◌<◌}
use Rattle.stock.specs.Stock.{has}
use Rattle.search.specs.Lightest.{FromStock}
use Rattle.search.specs.Search.{Step, Done, bars_place}
use Rattle.search.proofs.lightest.Search.weigh_bottoms.Given as goal

abbrev pub invariant-loop-bottom : goal.invariant-loop-bottom
invariant-loop-bottom g l =
    Step (g.P.Book.answer l.self.pile.now) (has l.self.stock.now) l.self.beam.now l.initial.found l.found
    × Done (g.P.Book.answer l.self.pile.now) l.self.beam.now
    (λ d. FromStock (has l.self.stock.now) d × (bars_place d.bottom < l.bottom-index)) l.found
