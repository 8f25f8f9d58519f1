use Rattle.std.proofs.Common.{◌+◌, length, refl, arith}
use Rattle.console.proofs.Sinks.{put_on}
use Rattle.console.proofs.page.append.Goals as goal

pub returns-clause-text : goal.returns-clause-text
returns-clause-text c =
    put_on c.args.page.now c.put.new.page c.args.more.now c.args.written (c.args.written + length c.args.more.now) refl (omega (arith, c.requires))
    c.put.ensures
