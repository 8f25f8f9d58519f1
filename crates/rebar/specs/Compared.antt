-- How the derived comparisons of cages compare: what `==`, `<` and `cmp`, a sort and a map of cages
-- go by.
use Rattle.std.specs.Prelude.{Bool, Option}
use Rattle.std.specs.declared.cmp.Ordering.{Ordering}
use Rattle.rebar.specs.declared.cage.Cage.{Cage}
use Rattle.rebar.specs.contracts.cage.CagePartialEq.TheImpl as partial-eq
use Rattle.rebar.specs.contracts.cage.CagePartialOrd.TheImpl as partial-ord
use Rattle.rebar.specs.contracts.cage.CageOrd.TheImpl as ord

-- what `==` answers
abbrev pub derived_eq : Cage → Cage → Bool
derived_eq = partial-eq.ghosts.eq

-- what `partial_cmp` answers, by which `<` goes
abbrev pub derived_partial_cmp : Cage → Cage → Option Ordering
derived_partial_cmp = partial-ord.ghosts.partial_cmp

-- what `cmp` answers
abbrev pub derived_cmp : Cage → Cage → Ordering
derived_cmp = ord.ghosts.cmp
