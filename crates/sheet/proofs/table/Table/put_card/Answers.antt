use Rattle.std.proofs.Common.{rules}
use Rattle.sheet.proofs.table.Table.put_card.Goals as goal

pub returns : goal.returns
returns c = (search rules, (c.in_ok-beam.beam, (c.in_ok-beam.ensures.beam_or_fault, search rules)))
