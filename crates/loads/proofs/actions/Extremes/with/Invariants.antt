use Rattle.std.proofs.Common.{◌≡◌, take, fold}
use Rattle.std.specs.Int.{int_max, int_min}
use Rattle.loads.proofs.actions.Extremes.with.Given as goal

abbrev pub invariant-loop-sum : goal.invariant-loop-sum
invariant-loop-sum l =
    (l.most ≡ fold int_max l.initial.most (take l.sum-index l.sums))
    × (l.least ≡ fold int_min l.initial.least (take l.sum-index l.sums))
