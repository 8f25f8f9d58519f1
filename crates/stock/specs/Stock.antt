-- Which marks are in stock.
use Rattle.std.specs.Prelude.{◌≡◌, ℕ, ◌-◌, Bool, false, ◌&&◌, ◌||◌, List, [], ◌∷◌, replicate, slice_index_or, slice_set}
use Rattle.rebar.specs.Ranges.{count, main_marks, tie_marks}
use Rattle.stock.specs.declared.kind.Kind.{Kind}
use Rattle.stock.specs.declared.kind.Kind.TheVariants.{Main, Tie}
use Rattle.stock.specs.declared.stock.Stock.{Stock}
use Rattle.stock.specs.Kinds.{known}

-- a stock with no mark in
abbrev pub IsEmpty : Stock → Type 0
IsEmpty stock =
    (stock.main ≡ replicate (count main_marks) false)
    × (stock.tie ≡ replicate (count tie_marks) false)

-- the row of a kind, from the least mark on
abbrev pub row : Stock → Kind → List Bool
row stock Main = stock.main
row stock Tie = stock.tie

-- whether a mark is in, in this kind
unfoldable pub has : Stock → Kind → ℕ → Bool
has stock kind mark =
    known kind mark && slice_index_or (row stock kind) (mark - main_marks.least) false

-- the stock with one mark set in or out
abbrev pub with_mark : Stock → Kind → ℕ → Bool → Stock
with_mark stock Main mark b =
    record { main = slice_set stock.main (mark - main_marks.least) b; tie = stock.tie }
with_mark stock Tie mark b =
    record { main = stock.main; tie = slice_set stock.tie (mark - main_marks.least) b }

-- whether some mark of a row is in
abbrev pub some_in : List Bool → Bool
some_in [] = false
some_in (b ∷ bs) = b || some_in bs

-- some main mark and some tie mark is in, so there are cages from stock
abbrev pub offers_cages : Stock → Bool
offers_cages stock = some_in stock.main && some_in stock.tie
