use Rattle.std.proofs.Common.{◌≡◌, ◌*◌, ◌≤◌, [], length, take, drop, Some}
use Rattle.console.specs.declared.line.TheConstants.{LONGEST_LINE}
use Rattle.console.specs.Pages.{joined}
use Rattle.console.specs.Feeding.{Continues}
use Rattle.console.proofs.page.answer_pieces.Given as goal

abbrev pub invariant-loop-piece : goal.invariant-loop-piece
invariant-loop-piece g l =
    (l.console.sheet.pile ≡ l.initial.console.sheet.pile) × (l.written ≤ LONGEST_LINE * length (joined (take l.piece-index l.pieces)))
    × (drop l.written l.page ≡ drop l.written l.initial.page)
    × Continues (g.P.Book.answer l.initial.console.sheet.pile) l.initial.console (joined (take l.piece-index l.pieces)) (Some []) l.console
    (Some (take l.written l.page))
