use Rattle.stock.specs.Stock.{has}
use Rattle.search.proofs.Steps.{refused_so, none_like, none_better}
use Rattle.search.proofs.lightest.Search.weigh_refused.Goals as goal

pub returns-in-Chosen-clause-right_for_these_cages : goal.returns-in-Chosen-clause-right_for_these_cages
returns-in-Chosen-clause-right_for_these_cages g c =
    let asked = c.args.self.now in
    let better = none_better (g.P.Book.answer asked.pile.now) (has asked.stock.now) asked.beam.now c.args.best c.args.cage.now c.args.number c.requires.refused c.in-Chosen.field-0 in
    rw c.in-Chosen.is better

pub returns-in-Impossible-clause-keeps_what_was_right : goal.returns-in-Impossible-clause-keeps_what_was_right
returns-in-Impossible-clause-keeps_what_was_right g c =
    let asked = c.args.self.now in
    refused_so (g.P.Book.answer asked.pile.now) (has asked.stock.now) asked.beam.now c.args.best c.args.cage.now c.args.number c.requires.refused
    c.in-Impossible.greatest c.max.result c.in-Impossible.is c.max.ensures c.requires.from_stock

pub returns-in-Impossible-clause-right_for_these_cages : goal.returns-in-Impossible-clause-right_for_these_cages
returns-in-Impossible-clause-right_for_these_cages g c =
    let asked = c.args.self.now in
    none_like (g.P.Book.answer asked.pile.now) (has asked.stock.now) asked.beam.now c.args.best c.args.cage.now c.args.number c.requires.refused
    c.in-Impossible.greatest c.max.result c.max.ensures
