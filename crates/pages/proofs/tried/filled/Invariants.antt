use Rattle.pages.specs.Tries.{Filled}
use Rattle.pages.proofs.tried.filled.Given as goal

abbrev pub invariant-loop : goal.invariant-loop
invariant-loop l = Filled l.counter l.case.chosen l.fn.page l.bill l.page
