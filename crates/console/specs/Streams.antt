-- Which streams have led to a console, and what its calls promise of every one of them. What stands in
-- `Led` need not be believed: opening a console begins it, each byte leads it on, and what is printed is
-- concluded without it.
use Rattle.std.specs.Prelude.{◌≡◌, ℕ, Bool, true, false, List, [], ◌∷◌, ◌++◌, map, reverse, Some, None, Option, Result, MatchBool}
use Rattle.arrayvec.specs.ArrayString.{ArrayString}
use Rattle.rebar.specs.declared.beam.Beam.{Beam}
use Rattle.rebar.specs.declared.cage.Cage.{Cage}
use Rattle.sheet.specs.declared.call.Answer.{Answer}
use Rattle.sheet.specs.declared.call.Call.{Call}
use Rattle.sheet.specs.declared.call.Exchange.{Exchange}
use Rattle.sheet.specs.declared.refusal.Refusal.{Refusal}
use Rattle.sheet.specs.declared.table.Table.{Table}
use Rattle.sheet.specs.Calls.{New, Makes, refusal}
use Rattle.sheet.specs.Law.{call_of}
use Rattle.sheet.specs.Runs.{AnswersLawfully}
use Rattle.console.specs.Lines.{lines_text}
use Rattle.console.specs.Orders.{NoOrder, Leaves, IsStopped, begins_known}
use Rattle.console.specs.Printed.{IsPrintedSoFar, IsPrinted, ShowsLightest}
use Rattle.console.specs.declared.console.Console.{Console}

-- these exchanges, the newest first, have led to a table
pub data Course (pile : Beam → Cage → ℕ) : List Exchange → Table → Type 0 where
  opened : {t : Table} → New t → Course pile [] t
  made : {exchanges : List Exchange} {t t' : Table} (call : Call) (r : Result Answer Refusal)
      → Course pile exchanges t → Makes pile t call (refusal r) t' → AnswersLawfully pile t call r
      → Course pile (record { call = call; answer = Some r } ∷ exchanges) t'

-- what a stream leaves after its orders is what has come of the next one; where the reading has
-- stopped, its letter is unknown
abbrev pub Holds : Bool → List ℕ → List ℕ → Type 0
Holds false rest pending = rest ≡ pending
Holds true rest pending = begins_known rest ≡ false

-- a stream has led to a sheet's table and what is held of the next order, and this text was printed
pub record Led (pile : Beam → Cage → ℕ) (stream text : List ℕ) (table : Table) (pending : List ℕ)
    (stopped : Bool) : Type 0 where
  pub exchanges : List Exchange
  pub rest : List ℕ
  pub whole : Leaves stream (map call_of exchanges) rest
  pub unfinished : NoOrder rest
  pub course : Course pile (reverse exchanges) table
  pub printed : text ≡ lines_text exchanges
  pub held : Holds stopped rest pending

-- the same, of a console
abbrev pub LedTo : {P : Type 0} → (Beam → Cage → ℕ) → List ℕ → List ℕ → Console P → Type 0
LedTo pile stream text console =
    Led pile stream text console.sheet.table console.pending.items console.stopped

-- the text of a line, where there is one
abbrev pub text_due : Option ArrayString → List ℕ
text_due None = []
text_due (Some line) = line.bytes

-- every stream that led to a console is led on by a byte, and every text by the line that is due
unfoldable pub GoesOn :
    {P : Type 0} → (Beam → Cage → ℕ) → Console P → ℕ → Option ArrayString → Console P → Type 0
GoesOn pile console byte line console' =
    (stream text : List ℕ) → LedTo pile stream text console
    → LedTo pile (stream ++ byte ∷ []) (text ++ text_due line) console'

-- after every stream that led to a console, the lines of the orders that stand whole in the stream
-- and this byte are printed
unfoldable pub PrintsSoFar :
    {P : Type 0} → (Beam → Cage → ℕ) → Console P → ℕ → Option ArrayString → Type 0
PrintsSoFar pile console byte line =
    (stream text : List ℕ) → LedTo pile stream text console
    → IsPrintedSoFar pile (stream ++ byte ∷ []) (text ++ text_due line)

-- and no other lines may be printed
unfoldable pub PrintsAlone :
    {P : Type 0} → (Beam → Cage → ℕ) → Console P → ℕ → Option ArrayString → Type 0
PrintsAlone pile console byte line =
    (stream text other : List ℕ) → LedTo pile stream text console
    → IsPrintedSoFar pile (stream ++ byte ∷ []) other → other ≡ text ++ text_due line

-- after every stream that led to a console, with this at the end the lines of its calls, STOP and
-- the bill are printed
unfoldable pub EndsPrinted : {P : Type 0} → (Beam → Cage → ℕ) → Console P → List ℕ → Type 0
EndsPrinted pile console ending =
    (stream text : List ℕ) → LedTo pile stream text console → IsPrinted pile stream (text ++ ending)

-- and every line of the bill shows the lightest cage
unfoldable pub EndsLightest : {P : Type 0} → (Beam → Cage → ℕ) → Console P → List ℕ → Type 0
EndsLightest pile console ending =
    (stream text : List ℕ) → LedTo pile stream text console
    → ShowsLightest pile stream (text ++ ending)

-- and nothing else may be printed
unfoldable pub EndsAlone : {P : Type 0} → (Beam → Cage → ℕ) → Console P → List ℕ → Type 0
EndsAlone pile console ending =
    (stream text other : List ℕ) → LedTo pile stream text console → IsPrinted pile stream other
    → other ≡ text ++ ending

-- every stream that led to a console has come to a letter that no order has, or has not
unfoldable pub TellsStop : {P : Type 0} → (Beam → Cage → ℕ) → Console P → Bool → Type 0
TellsStop pile console stopped =
    (stream text : List ℕ) → LedTo pile stream text console
    → MatchBool stopped (IsStopped stream) (IsStopped stream → ⊥)
