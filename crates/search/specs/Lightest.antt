-- What the lightest cage from stock is.
use Rattle.std.specs.Prelude.{◌≡◌, ℕ, ◌≤◌, Bool, T, ◌⊎◌, ◌∷◌}
use Rattle.rebar.specs.declared.beam.Beam.{Beam}
use Rattle.rebar.specs.declared.cage.Cage.{Cage}
use Rattle.rebar.specs.Order.{numbers, Before}
use Rattle.rebar.specs.Steel.{steel}
use Rattle.books.specs.Answers.{Passes}
use Rattle.stock.specs.declared.kind.Kind.{Kind}
use Rattle.stock.specs.declared.kind.Kind.TheVariants.{Main, Tie}
use Rattle.search.specs.declared.decision.Decision.{Decision}
use Rattle.search.specs.declared.decision.Decision.TheVariants.{Chosen, Impossible}

-- the marks of all its bars are in, where `got` says which are
abbrev pub FromStock : (Kind → ℕ → Bool) → Cage → Type 0
FromStock got cage =
    T (got Main cage.bottom.mark) × T (got Main cage.top.mark) × T (got Tie cage.ties.mark)

-- d has less steel than c, or as much and is smaller by its six numbers
abbrev pub Better : Beam → Cage → Cage → Type 0
Better beam d c = Before (steel beam d ∷ numbers d) (steel beam c ∷ numbers c)

-- what a decision says of a beam, where a book gives these answers and these marks are in:
-- the chosen cage is from stock, passes and has this steel, and no better cage from stock passes;
-- or no cage from stock passes, and the greatest answer to one is n (0 where there is none)
abbrev pub Lightest : (Beam → Cage → ℕ) → (Kind → ℕ → Bool) → Beam → Decision → Type 0
Lightest answer got beam (Chosen x) =
    FromStock got x.cage × Passes answer beam x.cage × (x.steel ≡ steel beam x.cage)
    × ((d : Cage) → FromStock got d → Passes answer beam d → Better beam d x.cage → ⊥)
Lightest answer got beam (Impossible n) =
    ((d : Cage) → FromStock got d → (Passes answer beam d → ⊥) × (answer beam d ≤ n))
    × (((d : Cage) × (FromStock got d × (answer beam d ≡ n)))
    ⊎ ((n ≡ 0) × ((d : Cage) → FromStock got d → ⊥)))
