-- The haulage layer: articles 71 and 72, made with the length of a lorry's bed in mm and the kg that
-- the yard's hoist lifts.
use Rattle.std.specs.Prelude.{ℕ, ◌*◌, ◌<◌, cond, nat_lt}
use Rattle.rebar.specs.Steel.{steel}
use Rattle.rebar.specs.declared.beam.Beam.{Beam}
use Rattle.rebar.specs.declared.cage.Cage.{Cage}

-- the number where the bars are too long, and where the cage is too heavy
abbrev pub too_long : ℕ
too_long = 71

abbrev pub too_heavy : ℕ
too_heavy = 72

-- what a hoist lifts, and what a cage weighs at 7,850 kg for a cubic metre of steel: both in
-- hundred-millionths of a kg
abbrev pub lifted : ℕ → ℕ
lifted kg = 100000000 * kg

abbrev pub weight : Beam → Cage → ℕ
weight beam cage = 785 * steel beam cage

-- the bars, which run the whole span, are longer than the bed
abbrev pub TooLong : ℕ → Beam → Type 0
TooLong bed beam = bed < beam.member.span

-- the cage weighs more than the hoist lifts
abbrev pub TooHeavy : ℕ → Beam → Cage → Type 0
TooHeavy lifts beam cage = lifted lifts < weight beam cage

-- what the layer answers of its own, 0 where neither is so
abbrev pub haulage_answer : ℕ → ℕ → Beam → Cage → ℕ
haulage_answer bed lifts beam cage =
    cond (nat_lt bed beam.member.span) too_long
    (cond (nat_lt (lifted lifts) (weight beam cage)) too_heavy 0)
