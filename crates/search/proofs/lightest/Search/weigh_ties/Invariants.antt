use Rattle.std.proofs.Common.{◌≡◌, ◌<◌}
use Rattle.stock.specs.Stock.{has}
use Rattle.search.specs.Lightest.{FromStock}
use Rattle.search.specs.Search.{Step, Done, mark_place}
use Rattle.search.proofs.lightest.Search.weigh_ties.Given as goal

abbrev pub invariant-loop-mark : goal.invariant-loop-mark
invariant-loop-mark g l =
    Step (g.P.Book.answer l.self.pile.now) (has l.self.stock.now) l.self.beam.now l.initial.found l.found
    × Done (g.P.Book.answer l.self.pile.now) l.self.beam.now
    (λ d. (FromStock (has l.self.stock.now) d × (d.bottom ≡ l.bottom.bars) × (d.top ≡ l.top.bars)) × (mark_place d.ties < l.mark)) l.found
