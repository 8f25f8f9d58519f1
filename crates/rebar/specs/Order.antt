-- The order of cages: by their six numbers, as words stand in a dictionary.
use Rattle.std.specs.Prelude.{◌≡◌, ℕ, ◌<◌, ◌⊎◌, List, [], ◌∷◌}
use Rattle.rebar.specs.declared.cage.Cage.{Cage}

-- the six numbers of a cage, in their order
abbrev pub numbers : Cage → List ℕ
numbers cage =
    cage.bottom.mark
    ∷ cage.bottom.number
    ∷ cage.top.mark
    ∷ cage.top.number
    ∷ cage.ties.mark
    ∷ cage.ties.spacing
    ∷ []

-- the first number that differs is the smaller
abbrev pub Before : List ℕ → List ℕ → Type 0
Before [] [] = ⊥
Before [] (y ∷ ys) = Unit {0}
Before (x ∷ xs) [] = ⊥
Before (x ∷ xs) (y ∷ ys) = (x < y) ⊎ ((x ≡ y) × Before xs ys)

-- one cage is smaller than another
abbrev pub Smaller : Cage → Cage → Type 0
Smaller c d = Before (numbers c) (numbers d)
