use Rattle.std.proofs.Common.{take}
use Rattle.books.proofs.Rows.{Seen}
use Rattle.books.proofs.approved.ApprovedBook.check.Given as goal

abbrev pub invariant-loop-row : goal.invariant-loop-row
invariant-loop-row l = Seen (take l.row-index l.self.rows.now) l.beam l.cage l.is_known
