use Rattle.std.proofs.Common.{refl}
use Rattle.stock.specs.Stock.{has}
use Rattle.stock.proofs.stock.Stock.holds.Goals as goal

pub returns : goal.returns
unfolding has
returns c = record { whether_the_mark_is_in = rw (c.row.ensures, c.place.ensures, c.args.mark.now.listed) refl }
