-- What the steps of the search keep. A reader of the public contracts needs none of this.
use Rattle.std.specs.Prelude.{◌≡◌, ℕ, ◌+◌, ◌-◌, ◌*◌, ◌/◌, ◌<◌, ◌≤◌, Bool, T, ◌⊎◌}
use Rattle.std.specs.Prelude.{List, ◌∷◌, slice_index_or}
use Rattle.rebar.specs.declared.beam.Beam.{Beam}
use Rattle.rebar.specs.declared.cage.Bars.{Bars}
use Rattle.rebar.specs.declared.cage.Ties.{Ties}
use Rattle.rebar.specs.declared.cage.Cage.{Cage}
use Rattle.rebar.specs.Order.{numbers, Before}
use Rattle.rebar.specs.Ranges.{count, main_marks, tie_marks, bar_numbers}
use Rattle.rebar.specs.Ranges.{spacings, spacing_step, spacing_count}
use Rattle.rebar.specs.Steel.{steel}
use Rattle.books.specs.Answers.{Passes}
use Rattle.stock.specs.declared.kind.Kind.{Kind}
use Rattle.stock.specs.declared.kind.Kind.TheVariants.{Main, Tie}
use Rattle.search.specs.declared.decision.Choice.{Choice}
use Rattle.search.specs.declared.decision.Decision.{Decision}
use Rattle.search.specs.declared.decision.Decision.TheVariants.{Chosen, Impossible}
use Rattle.search.specs.Lightest.{FromStock}

-- the mark of these bars is in, where `got` says which are
abbrev pub MainIn : (Kind → ℕ → Bool) → Bars → Type 0
MainIn got bars = T (got Main bars.mark)

-- the same of ties
abbrev pub TieIn : (Kind → ℕ → Bool) → Ties → Type 0
TieIn got ties = T (got Tie ties.mark)

-- the cage d, with this steel, is better than the chosen one
abbrev pub Lighter : ℕ → Cage → Choice → Type 0
Lighter weight d x = Before (weight ∷ numbers d) (x.steel ∷ numbers x.cage)

-- a decision that is right with regard to the cage d
abbrev pub Covers : (Beam → Cage → ℕ) → Beam → Decision → Cage → Type 0
Covers answer beam (Chosen x) d = Passes answer beam d → Lighter (steel beam d) d x → ⊥
Covers answer beam (Impossible n) d = (Passes answer beam d → ⊥) × (answer beam d ≤ n)

-- a decision that names what there is
abbrev pub Sound : (Beam → Cage → ℕ) → (Kind → ℕ → Bool) → Beam → Decision → Type 0
Sound answer got beam (Chosen x) =
    FromStock got x.cage × Passes answer beam x.cage × (x.steel ≡ steel beam x.cage)
Sound answer got beam (Impossible n) =
    (n ≡ 0) ⊎ ((d : Cage) × (FromStock got d × (answer beam d ≡ n)))

-- from one decision to a later one
pub record Step (answer : Beam → Cage → ℕ) (got : Kind → ℕ → Bool) (beam : Beam)
    (old new : Decision) : Type 0 where
  pub sound : Sound answer got beam old → Sound answer got beam new
  pub keeps : (d : Cage) → Covers answer beam old d → Covers answer beam new d

-- a decision that no cage of this steel or more can change
abbrev pub StandsAgainst : ℕ → Decision → Type 0
StandsAgainst floor (Chosen x) = x.steel < floor
StandsAgainst floor (Impossible n) = ⊥

-- a cage has the bars of another, and ties of its mark
abbrev pub IsLike : Cage → Cage → Type 0
IsLike cage d = (d.bottom ≡ cage.bottom) × (d.top ≡ cage.top) × (d.ties.mark ≡ cage.ties.mark)

-- the place of a face's bars in the order of the search, by mark and then by number
abbrev pub bars_place : Bars → ℕ
bars_place bars =
    (bars.mark - main_marks.least) * count bar_numbers + (bars.number - bar_numbers.least)

-- the place of the mark of ties
abbrev pub mark_place : Ties → ℕ
mark_place ties = ties.mark - tie_marks.least

-- the place of their spacing: the widest first, since wide ties have the least steel
abbrev pub spacing_place : Ties → ℕ
spacing_place ties = (spacings.most - ties.spacing) / spacing_step

-- the place of ties in the order of the search, by mark and then by spacing
abbrev pub ties_place : Ties → ℕ
ties_place ties = mark_place ties * spacing_count + spacing_place ties

-- each of the first n elements stands at its place
abbrev pub IsByPlace : {X : Type 0} → (X → ℕ) → List X → ℕ → Type 0
IsByPlace {X} place xs n = (k : ℕ) (d : X) → k < n → place (slice_index_or xs k d) ≡ k

-- the decision is right with regard to all cages of which P holds
abbrev pub Done : (Beam → Cage → ℕ) → Beam → (Cage → Type 0) → Decision → Type 0
Done answer beam P best = (d : Cage) → P d → Covers answer beam best d
