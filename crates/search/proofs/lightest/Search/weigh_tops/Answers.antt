use Rattle.std.proofs.Common.{◌≡◌, arith}
use Rattle.stock.specs.Stock.{has}
use Rattle.search.specs.Lightest.{FromStock}
use Rattle.search.specs.Search.{bars_place}
use Rattle.search.proofs.Loops.{turned}
use Rattle.search.proofs.PlaceLemmas.{bars_here}
use Rattle.search.proofs.lightest.Search.weigh_tops.Goals as goal

pub loop-top-preserved : goal.loop-top-preserved
loop-top-preserved g c =
    let asked = c.args.self.now in
    let inner = c.weigh_top-found.ensures in
    turned bars_place (λ d. d.top) (λ d. FromStock (has asked.stock.now) d × (d.bottom ≡ c.args.bottom.now.bars))
    (bars_here asked.bars asked.every_bars c.loop-top.top-index c.top-item.result (omega arith)) c.loop-top.invariant.0
    inner.keeps_what_was_right (λ d p e. inner.right_for_these_cages d (p.0, p.1, e)) c.loop-top.invariant.1
