-- What the console prints of a stream of orders, on a pile of article books with these answers.
use Rattle.std.specs.Prelude.{◌≡◌, ℕ, List, [], ◌∷◌, ◌++◌, map, reverse, codes, All}
use Rattle.std.specs.List.{concat}
use Rattle.rebar.specs.declared.beam.Beam.{Beam}
use Rattle.rebar.specs.declared.cage.Cage.{Cage}
use Rattle.search.specs.declared.decision.Choice.{Choice}
use Rattle.search.specs.declared.decision.Decision.TheVariants as decision
use Rattle.search.specs.Lightest.{Lightest}
use Rattle.sheet.specs.Size.{place_count}
use Rattle.sheet.specs.declared.call.Call.{Call}
use Rattle.sheet.specs.declared.call.Exchange.{Exchange}
use Rattle.sheet.specs.declared.reading.Shown.{Shown}
use Rattle.sheet.specs.History.{in_after, IsBeamAfter}
use Rattle.sheet.specs.Law.{call_of, calls_of, AllAnswered, Lawful}
use Rattle.bill.specs.Whole.{bill_text}
use Rattle.console.specs.Bills.{lines_below}
use Rattle.console.specs.Lines.{lines_text}
use Rattle.console.specs.Orders.{Leaves, NoOrder}

-- the line that tells of bytes which begin no order, where there are any
abbrev pub stop_text : List ℕ → List ℕ
stop_text [] = []
stop_text (b ∷ bytes) = codes "STOP\n"

-- a stream begins with the orders of these calls and no further one, and goes on with the rest;
-- each call has the answer that the calls before it determine
pub record Answered (pile : Beam → Cage → ℕ) (stream : List ℕ) (exchanges : List Exchange)
    (rest : List ℕ) : Type 0 where
  pub whole : Leaves stream (map call_of exchanges) rest
  pub unfinished : NoOrder rest
  pub answered : AllAnswered pile (reverse exchanges)

-- once these bytes have come, this has been printed: the lines of the orders that stand whole in
-- them
pub record IsPrintedSoFar (pile : Beam → Cage → ℕ) (stream out : List ℕ) : Type 0 where
  pub exchanges : List Exchange
  pub rest : List ℕ
  pub orders : Answered pile stream exchanges rest
  pub text : out ≡ lines_text exchanges

-- of a whole stream this is printed: the lines of its orders, STOP where bytes are left, and the
-- bill of the places that show a chosen cage after all of its calls
pub record IsPrinted (pile : Beam → Cage → ℕ) (stream out : List ℕ) : Type 0 where
  pub exchanges : List Exchange
  pub rest : List ℕ
  pub shown : ℕ → Shown
  pub orders : Answered pile stream exchanges rest
  pub lawful : (p : ℕ) → Lawful pile (calls_of exchanges) p (shown p)
  pub text :
      out ≡ lines_text exchanges
      ++ (stop_text rest ++ bill_text (lines_below shown place_count))

-- a line shows the lightest cage from stock that the pile passes for the beam at its place, with
-- its own steel, after these calls
abbrev pub IsLightestAfter : (Beam → Cage → ℕ) → List Call → ℕ × Choice → Type 0
IsLightestAfter pile calls line =
    (b : Beam)
    × (IsBeamAfter calls line.0 b × Lightest pile (in_after calls) b (decision.Chosen line.1))

-- what is printed is so, and every line of its bill shows such a cage after the calls that the
-- stream spells
pub record ShowsLightest (pile : Beam → Cage → ℕ) (stream out : List ℕ) : Type 0 where
  pub printed : IsPrinted pile stream out
  pub lightest :
      All (IsLightestAfter pile (calls_of printed.exchanges))
      (lines_below printed.shown place_count)

-- nothing but this text is printed of a stream
abbrev pub IsOnlyText : (Beam → Cage → ℕ) → List ℕ → List ℕ → Type 0
IsOnlyText pile stream text = (other : List ℕ) → IsPrinted pile stream other → other ≡ text

-- whatever is printed of these bytes, however they are cut into pieces, is this text
abbrev pub IsTextOfEveryCut : (Beam → Cage → ℕ) → List ℕ → List ℕ → Type 0
IsTextOfEveryCut pile stream text =
    (pieces : List (List ℕ)) (other : List ℕ) → concat pieces ≡ stream
    → IsPrinted pile (concat pieces) other → other ≡ text
