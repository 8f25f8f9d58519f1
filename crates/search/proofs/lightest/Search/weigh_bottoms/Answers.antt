use Rattle.std.proofs.Common.{arith}
use Rattle.stock.specs.Stock.{has}
use Rattle.search.specs.Lightest.{FromStock}
use Rattle.search.specs.Search.{bars_place}
use Rattle.search.proofs.Loops.{turned}
use Rattle.search.proofs.PlaceLemmas.{bars_here}
use Rattle.search.proofs.lightest.Search.weigh_bottoms.Goals as goal

pub loop-bottom-preserved : goal.loop-bottom-preserved
loop-bottom-preserved g c =
    let asked = c.args.self.now in
    let inner = c.weigh_tops-found.ensures in
    turned bars_place (λ d. d.bottom) (FromStock (has asked.stock.now))
    (bars_here asked.bars asked.every_bars c.loop-bottom.bottom-index c.bottom-item.result (omega arith)) c.loop-bottom.invariant.0
    inner.keeps_what_was_right (λ d p e. inner.right_for_these_cages d (p, e)) c.loop-bottom.invariant.1
