use Rattle.std.proofs.Common.{rules}
use Rattle.rebar.proofs.Dictionary.{smaller_cage}
use Rattle.rebar.proofs.cage.Cage.order.Goals as goal

pub returns-clause-smaller_cage : goal.returns-clause-smaller_cage
returns-clause-smaller_cage c = smaller_cage c.args.self.now c.args.other.now _ (search rules)
