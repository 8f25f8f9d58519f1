-- The rules of the workshop whose book the program brings along.
use Rattle.std.specs.Prelude.{ℕ, ◌+◌, ◌*◌, cond, nat_lt}
use Rattle.rebar.specs.declared.beam.Beam.{Beam}
use Rattle.rebar.specs.declared.cage.Cage.{Cage}

-- the answer: 200 where the ties are too thin for the span, 255 where they stand too far apart for the cover, 120 where both main
-- marks together are too small for the height, 1 where the bottom has too few bars for the aggregate, and else 0
abbrev pub workshop_answer : Beam → Cage → ℕ
workshop_answer beam cage =
    cond (nat_lt (2000 * cage.ties.mark) beam.member.span) 200
    (cond (nat_lt (10 * beam.section.cover) cage.ties.spacing) 255
    (cond (nat_lt (50 * (cage.bottom.mark + cage.top.mark)) beam.section.height) 120
    (cond (nat_lt (10 * cage.bottom.number) beam.materials.aggregate) 1 0)))
