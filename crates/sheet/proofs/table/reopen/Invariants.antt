use Rattle.std.proofs.Common.{◌≡◌, ◌++◌, map, take, drop}
use Rattle.sheet.specs.Places.{place_reopened}
use Rattle.sheet.proofs.table.reopen.Given as goal

abbrev pub invariant-loop-place : goal.invariant-loop-place
invariant-loop-place l =
    l.places
    ≡ map (place_reopened l.change.item.kind l.change.item.mark l.change.is_in) (take l.place-index l.initial.places) ++ drop l.place-index l.initial.places
