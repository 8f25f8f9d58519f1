use Rattle.std.proofs.Common.{◌≡◌, take}
use Rattle.console.specs.Feeding.{Continues}
use Rattle.console.proofs.stream.print_piece.Given as goal

abbrev pub invariant-loop-byte : goal.invariant-loop-byte
invariant-loop-byte g l =
    (l.console.sheet.pile ≡ l.initial.console.sheet.pile)
    × Continues (g.P.Book.answer l.initial.console.sheet.pile) l.initial.console (take l.byte-index l.piece) (g.W.Write.contents l.initial.sink) l.console
    (g.W.Write.contents l.sink)
