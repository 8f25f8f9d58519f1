-- The lines that the console writes of orders.
use Rattle.std.specs.Prelude.{ℕ, List, [], ◌∷◌, ◌++◌, codes, decimal, Some, None, Ok, Err, Option, Result, flat_map}
use Rattle.sheet.specs.declared.call.Answer.{Answer}
use Rattle.sheet.specs.declared.call.Answer.TheVariants as answer
use Rattle.sheet.specs.declared.call.Call.{Call}
use Rattle.sheet.specs.declared.call.Call.TheVariants as call
use Rattle.sheet.specs.declared.call.Exchange.{Exchange}
use Rattle.sheet.specs.declared.reading.Shown.{Shown}
use Rattle.sheet.specs.declared.reading.Shown.TheVariants as shown
use Rattle.sheet.specs.declared.refusal.Refusal.{Refusal}
use Rattle.sheet.specs.Refusals.{refusal_number, byte_place}
use Rattle.console.specs.declared.line.Outcome.{Outcome}
use Rattle.console.specs.declared.line.Outcome.TheVariants.{Done, Cage, NoCage}
use Rattle.console.specs.Letters.{enter_letter, correct_letter, strike_letter, stock_letter, design_letter}

-- what became of an order, up to the line's end
abbrev pub outcome_text : Result Outcome Refusal → List ℕ
outcome_text (Ok Done) = codes "OK\n"
outcome_text (Ok Cage) = codes "CAGE\n"
outcome_text (Ok (NoCage n)) = codes "NONE " ++ (decimal n ++ codes "\n")
outcome_text (Err e) =
    codes "REFUSED "
    ++ (decimal (refusal_number e) ++ (codes " " ++ (decimal (byte_place e) ++ codes "\n")))

-- letter, place or mark, and what became of the order
abbrev pub line_text : ℕ → ℕ → Result Outcome Refusal → List ℕ
line_text letter number o =
    letter ∷ (codes " " ++ (decimal number ++ (codes " " ++ outcome_text o)))

-- what became of a design order, by what its place then shows
abbrev pub outcome_shown : Shown → Outcome
outcome_shown shown.Empty = Done
outcome_shown shown.Open = Done
outcome_shown (shown.Chosen x) = Cage
outcome_shown (shown.Impossible n) = NoCage n

-- what became of an order, by what its call was answered
abbrev pub outcome_of : Result Answer Refusal → Result Outcome Refusal
outcome_of (Ok answer.Done) = Ok Done
outcome_of (Ok (answer.Shows reading)) = Ok (outcome_shown reading.shown)
outcome_of (Ok (answer.Designs n)) = Ok Done
outcome_of (Err e) = Err e

-- the letter of the order that spells a call, and the place or the mark that its line shows; none
-- where no order spells it
abbrev pub head_of : Call → Option (ℕ × ℕ)
head_of (call.Enter p card) = Some (enter_letter, p)
head_of (call.Correct p card) = Some (correct_letter, p)
head_of (call.Strike p) = Some (strike_letter, p)
head_of (call.Stock kind mark is-in) = Some (stock_letter, mark)
head_of (call.Design p) = Some (design_letter, p)
head_of (call.Read p) = None
head_of call.Count = None

-- the line of a call with its answer
abbrev pub text_by : Option (ℕ × ℕ) → Option (Result Answer Refusal) → List ℕ
text_by (Some head) (Some r) = line_text head.0 head.1 (outcome_of r)
text_by (Some head) None = []
text_by None r = []

-- the line of an order; nothing for a call that no order spells, or that is not made
abbrev pub text_of : Exchange → List ℕ
text_of x = text_by (head_of x.call) x.answer

-- the lines of the orders, one after the other
abbrev pub lines_text : List Exchange → List ℕ
lines_text = flat_map text_of
