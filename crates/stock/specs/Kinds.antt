-- The kinds of bar marks, by number, and the marks that the yard knows in each.
use Rattle.std.specs.Prelude.{◌≡◌, ◌≢◌, ℕ, Bool, Result, MatchResult}
use Rattle.rebar.specs.Ranges.{within, main_marks, tie_marks}
use Rattle.stock.specs.declared.kind.Kind.{Kind}
use Rattle.stock.specs.declared.kind.Kind.TheVariants.{Main, Tie}
use Rattle.stock.specs.declared.kind.UnknownKind.{UnknownKind}

-- the number by which an order names a kind
abbrev pub kind_number : Kind → ℕ
kind_number Main = 0
kind_number Tie = 1

-- the marks that there are in a kind
abbrev pub known : Kind → ℕ → Bool
known Main mark = within main_marks mark
known Tie mark = within tie_marks mark

-- the kind with this number, or the number where no kind has it
abbrev pub IsKindOf : ℕ → Result Kind UnknownKind → Type 0
IsKindOf number r =
    MatchResult r (λ kind. kind_number kind ≡ number)
    (λ e. (e.0 ≡ number) × ((k : Kind) → kind_number k ≢ number))
