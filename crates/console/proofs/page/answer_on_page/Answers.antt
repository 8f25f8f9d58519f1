use Rattle.std.proofs.Common.{take}
use Rattle.console.specs.Pages.{joined}
use Rattle.console.proofs.Pages.{nothing_else, every_cut}
use Rattle.console.proofs.page.answer_on_page.Goals as goal

pub returns-clause-nothing_else_is_printed : goal.returns-clause-nothing_else_is_printed
returns-clause-nothing_else_is_printed g c =
    nothing_else (g.P.Book.answer c.args.pile) (joined c.args.pieces.now) (take c.answer_pieces.result c.answer_pieces.new.page) c.answer_pieces.ensures.prints

pub returns-clause-pieces_do_not_matter : goal.returns-clause-pieces_do_not_matter
returns-clause-pieces_do_not_matter g c =
    every_cut (g.P.Book.answer c.args.pile) (joined c.args.pieces.now) (take c.answer_pieces.result c.answer_pieces.new.page) c.answer_pieces.ensures.prints
