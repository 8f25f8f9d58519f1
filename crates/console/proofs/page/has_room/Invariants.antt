use Rattle.std.proofs.Common.{◌≡◌, ◌+◌, length, take}
use Rattle.console.specs.Pages.{joined}
use Rattle.console.proofs.page.has_room.Given as goal

abbrev pub invariant-loop-piece : goal.invariant-loop-piece
invariant-loop-piece l = l.left + length (joined (take l.piece-index l.pieces)) ≡ l.initial.left
