use Rattle.std.proofs.Common.{◌≡◌, map, take}
use Rattle.sheet.specs.Law.{call_of}
use Rattle.sheet.proofs.Running.{Made}
use Rattle.sheet.proofs.run.run.Given as goal

abbrev pub invariant-loop-exchange : goal.invariant-loop-exchange
invariant-loop-exchange g l =
    (l.sheet.pile ≡ l.fn.pile) × Made (g.P.Book.answer l.fn.pile) (take l.exchange-index l.exchanges) l.sheet.table
    × (map call_of l.exchanges ≡ map call_of l.initial.exchanges)
