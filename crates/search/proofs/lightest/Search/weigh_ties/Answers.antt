use Rattle.std.proofs.Common.{◌≡◌}
use Rattle.stock.specs.Stock.{has}
use Rattle.search.specs.Lightest.{FromStock}
use Rattle.search.specs.Search.{mark_place}
use Rattle.search.proofs.Loops.{turned}
use Rattle.search.proofs.lightest.Search.weigh_ties.Goals as goal

pub loop-mark-preserved : goal.loop-mark-preserved
loop-mark-preserved g c =
    let asked = c.args.self.now in
    let inner = c.weigh_spacings-found.ensures in
    turned (λ k. k) (λ d. mark_place d.ties) (λ d. FromStock (has asked.stock.now) d × (d.bottom ≡ c.args.bottom.now.bars) × (d.top ≡ c.args.top.now.bars))
    (λ _ e. e) c.loop-mark.invariant.0
    inner.keeps_what_was_right (λ d p e. inner.right_for_these_cages d (p.0, p.1, p.2, e)) c.loop-mark.invariant.1
