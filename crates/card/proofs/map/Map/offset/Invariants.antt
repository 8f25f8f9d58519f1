use Rattle.std.proofs.Common.{◌≡◌}
use Rattle.card.specs.Map.{offset}
use Rattle.card.proofs.map.Map.offset.Given as goal

abbrev pub invariant-loop-k : goal.invariant-loop-k
invariant-loop-k l = l.at ≡ offset l.self.bits l.k
