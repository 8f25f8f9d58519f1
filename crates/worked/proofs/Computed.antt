-- The answers to the cages of the lists, and the beams of the cards, computed.
use Rattle.std.proofs.Common.{◌≡◌, ℕ, Bool, true, false, ◌&&◌, eqb, List, [], ◌∷◌, Ok, refl, rules}
use Rattle.std.proofs.lemmas.Bool.{and_parts, eqb-true}
use Rattle.rebar.specs.Marks.{bar_diameter, bar_area, face_area}
use Rattle.rebar.specs.Grades.{is_concrete, is_steel, is_shear_factor, grade_place, root_of, block_factor_of, least_ratio_of}
use Rattle.rebar.specs.declared.beam.Beam.{Beam}
use Rattle.rebar.specs.declared.cage.Cage.{Cage}
use Rattle.card.specs.Numbers.{number_fault, value, field_fault, load_fault}
use Rattle.card.specs.Map.{stands, offset, required}
use Rattle.card.specs.Layout.{size}
use Rattle.card.specs.Parts.{case_fault, load_number}
use Rattle.card.specs.Card.{map_fault, card_fault, CardAs}
use Rattle.books.specs.General.{articles_for, general_answer}
use Rattle.books.specs.Frame.{frame_answer}
use Rattle.books.specs.declared.frame.Frame.{Frame}
use Rattle.books.specs.declared.general.General.{General}
use Rattle.books.specs.Pile.{framed_answer}
use Rattle.worked.specs.Reference.{reference_beam, reference_card}
use Rattle.worked.specs.Worked.{Example, examples, EveryAnswered, EveryMomentAnswered, moment_examples}

-- whether each is what a pile answers
abbrev all_answered : (Beam → Cage → ℕ) → List Example → Bool
all_answered answer [] = true
all_answered answer (e ∷ es) = eqb (answer (reference_beam e.in_frame) e.cage) e.answer && all_answered answer es

each : (answer : Beam → Cage → ℕ) (l : List Example) → all_answered answer l ≡ true → EveryAnswered answer l
each answer [] h = tt
each answer (e ∷ es) h =
    let p = and_parts (eqb (answer (reference_beam e.in_frame) e.cage) e.answer) (all_answered answer es) h in
    (eqb-true (answer (reference_beam e.in_frame) e.cage) e.answer p.0, each answer es p.1)

computed : (pile : Frame General) → all_answered (framed_answer pile) examples ≡ true
unfolding bar_diameter bar_area face_area grade_place root_of block_factor_of least_ratio_of general_answer articles_for frame_answer
computed pile = refl

pub answers_hold : (pile : Frame General) → EveryAnswered (framed_answer pile) examples
answers_hold pile = each (framed_answer pile) examples (computed pile)

pub moments_hold : EveryMomentAnswered moment_examples
unfolding bar_diameter bar_area face_area grade_place root_of block_factor_of least_ratio_of
moments_hold = (refl, (refl, tt))

pub cards_hold : (in_frame : Bool) → CardAs (reference_card in_frame) (Ok (reference_beam in_frame))
unfolding is_concrete is_steel is_shear_factor number_fault value field_fault load_fault stands offset required size case_fault load_number map_fault card_fault
cards_hold false = search rules
cards_hold true = search rules
