use Rattle.std.proofs.Common.{refl}
use Rattle.console.proofs.Stopping.{tells_stop}
use Rattle.console.proofs.console.Console.has_stopped.Goals as goal

pub returns-clause-as_the_stream : goal.returns-clause-as_the_stream
returns-clause-as_the_stream g c =
    tells_stop (g.P.Book.answer c.args.self.now.sheet.pile) c.args.self.now c.args.self.now.stopped refl c.args.self.now.begun
