use Rattle.std.proofs.Common.{refl}
use Rattle.rebar.specs.Marks.{bar_diameter, bar_area, face_area}
use Rattle.rebar.specs.Steel.{hook, tie_length, tie_count, bars_steel, ties_steel}
use Rattle.worked.specs.Reference.{reference_factored}
use Rattle.worked.proofs.Computed.{answers_hold, moments_hold, cards_hold}
use Rattle.worked.proofs.Impossible.{impossible}
use Rattle.worked.proofs.examples.count_answers.Goals as goal

pub returns-clause-worked_examples_hold : goal.returns-clause-worked_examples_hold
unfolding bar_diameter bar_area face_area hook tie_length tie_count bars_steel ties_steel
returns-clause-worked_examples_hold c =
    record { cards = cards_hold; actions = reference_factored; answers = answers_hold; answers_to_moments = moments_hold; steel_of_the_cage = refl; steel_in_the_frame = refl; impossible = impossible }
