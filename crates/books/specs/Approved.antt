-- The approved book: rows that each approve a cage in a section of certain grades, up to three
-- actions.
use Rattle.std.specs.Prelude.{◌≡◌, ℕ, ◌≤◌, Bool, ◌&&◌, cond, ◌==◌, nat_le, nat_eq, List}
use Rattle.std.specs.List.{All, Any, list_any}
use Rattle.std.specs.Cmp.Lexicographic.{pointwise}
use Rattle.loads.specs.declared.actions.Actions.{Actions}
use Rattle.rebar.specs.declared.beam.Beam.{Beam}
use Rattle.rebar.specs.declared.cage.Cage.{Cage}
use Rattle.rebar.specs.Order.{numbers}
use Rattle.books.specs.declared.approved.ApprovedRow.{ApprovedRow}

-- a row has this beam's section and grades, and this cage
abbrev pub IsFor : ApprovedRow → Beam → Cage → Type 0
IsFor row beam cage =
    (row.width ≡ beam.section.width) × (row.height ≡ beam.section.height)
    × (row.concrete ≡ beam.materials.concrete) × (row.steel ≡ beam.materials.steel)
    × (row.cage ≡ cage)

-- a row allows the actions, each up to and including its number
abbrev pub Allows : ApprovedRow → Actions → Type 0
Allows row actions =
    (actions.bottom ≤ row.bottom) × (actions.top ≤ row.top) × (actions.shear ≤ row.shear)

-- the number where no row is for a beam and a cage
abbrev pub no_row : ℕ
no_row = 60

-- the number where some are, and none of these allows all three actions
abbrev pub none_allows : ℕ
none_allows = 61

-- no row is for them
abbrev pub NoneIsFor : List ApprovedRow → Beam → Cage → Type 0
NoneIsFor rows beam cage = All (λ row. ¬ IsFor row beam cage) rows

-- some are, and none of these allows all three actions
abbrev pub NoneOfThemAllows : List ApprovedRow → Beam → Cage → Type 0
NoneOfThemAllows rows beam cage =
    Any (λ row. IsFor row beam cage) rows
    × All (λ row. IsFor row beam cage → ¬ Allows row beam.actions) rows

-- one single row is for them and allows all three
abbrev pub OneAllows : List ApprovedRow → Beam → Cage → Type 0
OneAllows rows beam cage = Any (λ row. IsFor row beam cage × Allows row beam.actions) rows

-- whether a row is for them, computed
unfoldable pub is_for : ApprovedRow → Beam → Cage → Bool
is_for row beam cage =
    row.width == beam.section.width && row.height == beam.section.height
    && row.concrete == beam.materials.concrete && row.steel == beam.materials.steel
    && pointwise nat_eq (numbers row.cage) (numbers cage)

-- whether it allows the actions, computed
unfoldable pub allows : ApprovedRow → Actions → Bool
allows row actions =
    nat_le actions.bottom row.bottom && nat_le actions.top row.top && nat_le actions.shear row.shear

-- whether it approves the cage for the beam
abbrev pub approves : Beam → Cage → ApprovedRow → Bool
approves beam cage row = is_for row beam cage && allows row beam.actions

-- the book's meaning
unfoldable pub approved_answer : List ApprovedRow → Beam → Cage → ℕ
approved_answer rows beam cage =
    cond (list_any (approves beam cage) rows) 0
    (cond (list_any (λ row. is_for row beam cage) rows) none_allows no_row)
