-- The tables that lists of calls lead to. A reader of the law needs none of this: opening a sheet
-- gives a run, each call leads it on, and reading concludes without it.
use Rattle.std.specs.Prelude.{◌≡◌, ℕ, min, List, [], ◌∷◌, Option, Result, IfOk}
use Rattle.rebar.specs.declared.beam.Beam.{Beam}
use Rattle.rebar.specs.declared.cage.Cage.{Cage}
use Rattle.sheet.specs.declared.call.Answer.{Answer}
use Rattle.sheet.specs.declared.call.Call.{Call}
use Rattle.sheet.specs.declared.reading.Reading.{Reading}
use Rattle.sheet.specs.declared.refusal.Refusal.{Refusal}
use Rattle.sheet.specs.declared.table.Table.{Table}
use Rattle.sheet.specs.Size.{greatest_count}
use Rattle.sheet.specs.Calls.{New, Makes}
use Rattle.sheet.specs.History.{why_after, designs_after}
use Rattle.sheet.specs.Law.{Lawful, Answers}

-- the calls, the newest first, have led to a table
pub data Run (pile : Beam → Cage → ℕ) : List Call → Table → Type 0 where
  opened : {t : Table} → New t → Run pile [] t
  made : {calls : List Call} {t t' : Table} (call : Call) (e : Option Refusal)
      → Run pile calls t → Makes pile t call e t' → Run pile (call ∷ calls) t'

-- every history that led to a table is led on by a call, whose refusal is the one that the calls
-- before it determine
unfoldable pub Grows : (Beam → Cage → ℕ) → Table → Call → Option Refusal → Table → Type 0
Grows pile t call e t' =
    (calls : List Call) → Run pile calls t
    → Run pile (call ∷ calls) t' × (why_after calls call ≡ e)

-- what is read of a place of a table is lawful after every history that led to it
unfoldable pub ReadsLawfully : (Beam → Cage → ℕ) → Table → ℕ → Result Reading Refusal → Type 0
ReadsLawfully pile t p r =
    IfOk r
    (λ reading. (calls : List Call) → Run pile calls t → Lawful pile calls p reading.shown)

-- a count is that of the designs in every history that led to a table
unfoldable pub CountsDesigns : (Beam → Cage → ℕ) → Table → ℕ → Type 0
CountsDesigns pile t n =
    (calls : List Call) → Run pile calls t → n ≡ min (designs_after calls) greatest_count

-- a call of a table is answered as every history that led to it determines
unfoldable pub AnswersLawfully : (Beam → Cage → ℕ) → Table → Call → Result Answer Refusal → Type 0
AnswersLawfully pile t call r = (calls : List Call) → Run pile calls t → Answers pile calls call r
