-- What the answer of a pile of article books says of a cage.
use Rattle.std.specs.Prelude.{◌≡◌, ◌≢◌, ℕ}
use Rattle.rebar.specs.declared.beam.Beam.{Beam}
use Rattle.rebar.specs.declared.cage.Ties.{Ties}
use Rattle.rebar.specs.declared.cage.Cage.{Cage}

-- a cage passes a pile for a beam when the pile answers 0 to the two
abbrev pub Passes : (Beam → Cage → ℕ) → Beam → Cage → Type 0
Passes answer beam cage = answer beam cage ≡ 0

-- a cage with other ties
abbrev pub with_ties : Cage → Ties → Cage
with_ties cage ties = record { bottom = cage.bottom; top = cage.top; ties = ties }

-- n refuses a cage, and whatever the spacing of its ties were, the answer would be n
abbrev pub AtEverySpacing : (Beam → Cage → ℕ) → Beam → Cage → ℕ → Type 0
AtEverySpacing answer beam cage n =
    (n ≢ 0) × ((ties : Ties) → ties.mark ≡ cage.ties.mark → answer beam (with_ties cage ties) ≡ n)
