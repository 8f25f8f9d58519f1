-- What the writing of a bill keeps. A reader of the public contracts needs none of this.
use Rattle.std.specs.Prelude.{◌≡◌, ℕ, ◌+◌, ◌*◌, ◌≤◌, List, length}
use Rattle.sheet.specs.declared.reading.Shown.{Shown}
use Rattle.bill.specs.Whole.{HasLines}
use Rattle.bill.specs.declared.bill.Begun.{Begun}
use Rattle.console.specs.declared.billing.TheConstants.{PAGE}
use Rattle.console.specs.Bills.{lines_below}

-- a bill has the lines of the places below n, and what it has written is not more than such lines
-- can be
pub record Billed (shown : ℕ → Shown) (n : ℕ) (page : List ℕ) (bill : Begun) : Type 0 where
  pub lines : HasLines (lines_below shown n) page bill
  pub few : bill.lines ≤ n
  pub short : bill.written ≤ 6 + 38 * n
  pub room : length page ≡ PAGE
