use Rattle.std.proofs.Common.{rules}
use Rattle.rebar.proofs.Dictionary.{same_cage_exactly}
use Rattle.rebar.proofs.cage.Cage.is_same.Goals as goal

pub returns-clause-the_same_cage : goal.returns-clause-the_same_cage
returns-clause-the_same_cage c = same_cage_exactly c.args.self.now c.args.other.now _ (search rules)
