use Rattle.std.proofs.Common.{◌≡◌, ◌+◌, ◌*◌, ◌≤◌, take, drop, Some}
use Rattle.console.specs.declared.line.TheConstants.{LONGEST_LINE}
use Rattle.console.specs.Feeding.{Continues}
use Rattle.console.proofs.page.answer_piece.Given as goal

abbrev pub invariant-loop-byte : goal.invariant-loop-byte
invariant-loop-byte g l =
    (l.console.sheet.pile ≡ l.initial.console.sheet.pile) × (l.initial.end ≤ l.end) × (l.end ≤ l.initial.end + LONGEST_LINE * l.byte-index)
    × (drop l.end l.page ≡ drop l.end l.initial.page)
    × Continues (g.P.Book.answer l.initial.console.sheet.pile) l.initial.console (take l.byte-index l.piece) (Some (take l.initial.end l.initial.page)) l.console
    (Some (take l.end l.page))
