use Rattle.std.proofs.Common.{length}
use Rattle.round.proofs.main.Given as goal

abbrev pub decreases-loop-stream : goal.decreases-loop-stream
decreases-loop-stream l = length l.rest
