-- The letters of the orders, as bytes.
use Rattle.std.specs.Prelude.{ℕ}

-- E
abbrev pub enter_letter : ℕ
enter_letter = 69

-- K
abbrev pub correct_letter : ℕ
correct_letter = 75

-- X
abbrev pub strike_letter : ℕ
strike_letter = 88

-- S
abbrev pub stock_letter : ℕ
stock_letter = 83

-- D
abbrev pub design_letter : ℕ
design_letter = 68
