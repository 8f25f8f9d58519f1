use Rattle.std.proofs.Common.{Ok}
use Rattle.card.specs.Card.{card_fault}
use Rattle.card.proofs.First.{judges}
use Rattle.card.proofs.One.{only_beam}
use Rattle.card.proofs.WellFormed.{taken_exactly}
use Rattle.card.proofs.reader.read_card.Goals as goal

pub returns-clause-beam_exactly_of_well_formed_cards : goal.returns-clause-beam_exactly_of_well_formed_cards
unfolding card_fault
returns-clause-beam_exactly_of_well_formed_cards c = taken_exactly c.args.card.now (Ok c.in_ok-beam.beam) c.in_ok-beam.ensures

pub returns-clause-of_no_other_beam : goal.returns-clause-of_no_other_beam
unfolding card_fault
returns-clause-of_no_other_beam c = only_beam c.args.card.now (Ok c.in_ok-beam.beam) c.in_ok-beam.ensures

pub returns-clause-first_bad_number : goal.returns-clause-first_bad_number
unfolding card_fault
returns-clause-first_bad_number c = judges c.args.card.now (Ok c.in_ok-beam.beam) c.in_ok-beam.ensures
