use Rattle.std.proofs.Common.{arith}
use Rattle.std.proofs.lemmas.Int.{to_z-of_z}
use Rattle.std.proofs.lemmas.List.Sums.{fold_more}
use Rattle.std.proofs.lemmas.List.{take_all}
use Rattle.loads.proofs.actions.Extremes.with.Goals as goal

pub loop-sum-preserved : goal.loop-sum-preserved
loop-sum-preserved c = (grind (arith, to_z-of_z, fold_more), grind (arith, to_z-of_z, fold_more))

pub returns : goal.returns
returns c = record { most = grind (arith, to_z-of_z, take_all); least = grind (arith, to_z-of_z, take_all) }
