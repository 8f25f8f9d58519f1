use Rattle.std.proofs.Common.{sym, subst}
use Rattle.rebar.specs.declared.cage.Cage.{Cage}
use Rattle.rebar.proofs.Same.{same_cage}
use Rattle.search.specs.Search.{Covers}
use Rattle.search.proofs.lightest.Search.weigh_cage.Goals as goal

pub returns-clause-right_for_these_cages : goal.returns-clause-right_for_these_cages
returns-clause-right_for_these_cages g c =
    λ d p.
    let asked = c.args.self.now in
    let cage : Cage = record { bottom = c.args.bottom.now.bars; top = c.args.top.now.bars; ties = c.args.ties.now.ties } in
    subst (λ x. Covers (g.P.Book.answer asked.pile.now) asked.beam.now c.weigh.result x) (sym (same_cage d cage p.0 p.1 p.2))
    c.weigh.ensures.right_for_this_cage
