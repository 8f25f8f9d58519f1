use Rattle.std.proofs.Common.{rules}
use Rattle.sheet.specs.Places.{place_reopened}
use Rattle.std.proofs.lemmas.List.Edits.{map_over_more}
use Rattle.std.proofs.lemmas.List.{take_all, drop_all, append-nil}
use Rattle.sheet.proofs.table.reopen.Goals as goal

pub loop-place-preserved : goal.loop-place-preserved
loop-place-preserved c = search (rules, map_over_more (place_reopened c.args.change.now.item.kind c.args.change.now.item.mark c.args.change.now.is_in))

pub returns : goal.returns
returns c = search (rules, take_all, drop_all, append-nil)
