-- The bill that ends the console's output.
use Rattle.std.specs.Prelude.{ℕ, zero, suc, List, [], ◌++◌}
use Rattle.search.specs.declared.decision.Choice.{Choice}
use Rattle.sheet.specs.declared.reading.Shown.{Shown}
use Rattle.bill.specs.Whole.{line_at}

-- the lines of the places below n, in their order
abbrev pub lines_below : (ℕ → Shown) → ℕ → List (ℕ × Choice)
lines_below shown zero = []
lines_below shown (suc n) = lines_below shown n ++ line_at n (shown n)
