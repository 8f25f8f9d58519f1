-- The worked examples of the reference beam.
use Rattle.std.specs.Prelude.{◌≡◌, ℕ, ◌%◌, Bool, true, false, T, nat_le, refl, List, [], ◌∷◌, replicate, Ok}
use Rattle.std.proofs.Common.{lit≤}
use Rattle.loads.specs.declared.actions.Actions.{Actions}
use Rattle.loads.specs.Actions.{ActionsOf}
use Rattle.rebar.specs.declared.beam.Beam.{Beam}
use Rattle.rebar.specs.declared.cage.Bars.{Bars}
use Rattle.rebar.specs.declared.cage.Ties.{Ties}
use Rattle.rebar.specs.declared.cage.Cage.{Cage}
use Rattle.rebar.specs.Ranges.{count, main_marks, tie_marks, bar_numbers, spacings, spacing_step}
use Rattle.rebar.specs.Steel.{steel}
use Rattle.card.specs.Card.{CardAs}
use Rattle.books.specs.Rules.{first_broken}
use Rattle.books.specs.General.{general}
use Rattle.books.specs.declared.frame.Frame.{Frame}
use Rattle.books.specs.declared.general.General.{General}
use Rattle.books.specs.Pile.{framed_answer}
use Rattle.stock.specs.declared.kind.Kind.TheVariants.{Main, Tie}
use Rattle.stock.specs.declared.stock.Stock.{Stock}
use Rattle.stock.specs.Stock.{has, with_mark}
use Rattle.search.specs.declared.decision.Decision.TheVariants.{Impossible}
use Rattle.search.specs.Lightest.{Lightest}
use Rattle.worked.specs.Reference.{reference_section, reference_materials, reference_member, reference_loads, actions_with, reference_actions, reference_beam, reference_card}

-- so many bars of a mark
abbrev pub bars : (n mark : ℕ)
    → T (nat_le bar_numbers.least n) → T (nat_le n bar_numbers.most)
    → T (nat_le main_marks.least mark) → T (nat_le mark main_marks.most) → Bars
bars n mark a b c d =
    record { mark = mark; number = n; marked = (lit≤ c, lit≤ d); counted = (lit≤ a, lit≤ b) }

-- #3 ties at a spacing
abbrev pub ties_at : (s : ℕ) → T (nat_le spacings.least s) → T (nat_le s spacings.most)
    → s % spacing_step ≡ 0 → Ties
ties_at s a b c =
    record { mark = 3; spacing = s; marked = (lit≤ tt, lit≤ tt); spaced = ((lit≤ a, lit≤ b), c) }

-- the faces of the examples: two #5 bars
abbrev pub two : Bars
two = bars 2 5 tt tt tt tt

-- three of them
abbrev pub three : Bars
three = bars 3 5 tt tt tt tt

-- four of them
abbrev pub four : Bars
four = bars 4 5 tt tt tt tt

-- a cage of a bottom, a top and ties
abbrev pub cage : Bars → Bars → Ties → Cage
cage b t s = record { bottom = b; top = t; ties = s }

-- the reference beam in the frame or not, a cage, and the answer that is expected
pub record Example : Type 0 where
  pub in_frame : Bool
  pub cage : Cage
  pub answer : ℕ

-- an example of these three
abbrev pub example : Bool → Cage → ℕ → Example
example f c n = record { in_frame = f; cage = c; answer = n }

-- eight answers, two of them in the frame
abbrev pub examples : List Example
examples =
    example false (cage three four (ties_at 200 tt tt refl)) 0
    ∷ example false (cage three three (ties_at 200 tt tt refl)) 7
    ∷ example false (cage two four (ties_at 200 tt tt refl)) 6
    ∷ example false (cage three four (ties_at 225 tt tt refl)) 13
    ∷ example false (cage three four (ties_at 125 tt tt refl)) 13
    ∷ example false (cage three four (ties_at 150 tt tt refl)) 0
    ∷ example true (cage three four (ties_at 150 tt tt refl)) 26
    ∷ example true (cage three four (ties_at 100 tt tt refl)) 0
    ∷ []

-- each is what a pile answers
abbrev pub EveryAnswered : (Beam → Cage → ℕ) → List Example → Type 0
EveryAnswered answer [] = Unit {0}
EveryAnswered answer (e ∷ es) =
    (answer (reference_beam e.in_frame) e.cage ≡ e.answer) × EveryAnswered answer es

-- actions with a bottom moment put in, and the answer that is expected
pub record MomentExample : Type 0 where
  pub actions : Actions
  pub answer : ℕ

-- an example of these two
abbrev pub moment_example : Actions → ℕ → MomentExample
moment_example a n = record { actions = a; answer = n }

-- the greatest moment that three bottom bars bear, and the next
abbrev pub moment_examples : List MomentExample
moment_examples =
    moment_example (actions_with 94573 tt) 0
    ∷ moment_example (actions_with 94574 tt) 6
    ∷ []

-- the first broken article of the general book, for a cage in the beam under these actions
abbrev pub answer_under : Actions → ℕ
answer_under a =
    let c : Cage = cage three four (ties_at 200 tt tt refl) in
    first_broken (general reference_section reference_materials (reference_member false) a c)

-- each is the number of the first broken article
abbrev pub EveryMomentAnswered : List MomentExample → Type 0
EveryMomentAnswered [] = Unit {0}
EveryMomentAnswered (e ∷ es) = (answer_under e.actions ≡ e.answer) × EveryMomentAnswered es

-- main mark 11 and tie mark 3 alone
abbrev pub main_11_tie_3 : Stock
main_11_tie_3 =
    with_mark
    (with_mark (record { main = replicate (count main_marks) false; tie = replicate (count tie_marks) false })
    Main 11 true) Tie 3 true

-- the worked examples; the pile is the frame layer over the general book
pub record WorkedExamples : Type 0 where
  -- each card describes this very beam
  pub cards : (in_frame : Bool) → CardAs (reference_card in_frame) (Ok (reference_beam in_frame))
  pub actions : ActionsOf reference_loads reference_actions
  pub answers : (pile : Frame General) → EveryAnswered (framed_answer pile) examples
  -- three bottom bars bear a moment of 94,573, and no more
  pub answers_to_moments : EveryMomentAnswered moment_examples
  pub steel_of_the_cage : steel (reference_beam false) (cage three four (ties_at 200 tt tt refl)) ≡ 9604780
  pub steel_in_the_frame : steel (reference_beam true) (cage three four (ties_at 100 tt tt refl)) ≡ 12041500
  -- main mark 11 makes the beam impossible with 4
  pub impossible : (pile : Frame General) (in_frame : Bool) → Lightest (framed_answer pile) (has main_11_tie_3) (reference_beam in_frame) (Impossible 4)
