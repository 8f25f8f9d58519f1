-- What is printed at the end of a stream.
use Rattle.std.proofs.Common.{◌≡◌, ℕ, suc, Bool, true, false, not, ◌||◌, List, [], ◌∷◌, ◌++◌, length, codes, if◌then◌else◌, ◌==◌, sym, refl, ap, ◌∙◌, subst, arith}
use Rattle.std.proofs.lemmas.Bool.Decides.{nat_tests}
use Rattle.std.proofs.lemmas.Bool.{false≢true}
use Rattle.rebar.specs.declared.beam.Beam.{Beam}
use Rattle.rebar.specs.declared.cage.Cage.{Cage}
use Rattle.sheet.specs.declared.call.Call.{Call}
use Rattle.sheet.specs.declared.table.Table.{Table}
use Rattle.sheet.specs.Places.{shown_of}
use Rattle.sheet.specs.Size.{place_count}
use Rattle.sheet.specs.Table.{place_at}
use Rattle.sheet.specs.Law.{call_of, calls_of}
use Rattle.sheet.specs.Runs.{Run}
use Rattle.sheet.proofs.Runs.{lawful}
use Rattle.bill.specs.Whole.{bill_text}
use Rattle.console.specs.Bills.{lines_below}
use Rattle.console.specs.Lines.{lines_text}
use Rattle.console.specs.Printed.{stop_text, IsPrinted}
use Rattle.console.specs.Streams.{Holds, Led, EndsPrinted, EndsLightest, EndsAlone}
use Rattle.console.specs.declared.console.Console.{Console}
use Rattle.console.proofs.Lightest.{shows_lightest}
use Rattle.console.proofs.Taking.{run_of, answered_of, reversed}
use Rattle.console.proofs.Only.{alone}

-- whether bytes are left that begin no order
abbrev pub is_cut : Bool → List ℕ → Bool
is_cut stopped pending = stopped || not (length pending == 0)

-- what is written of that
abbrev pub stop_by : Bool → List ℕ
stop_by cut = if cut then codes "STOP\n" else []

stop : (rest pending : List ℕ) (stopped : Bool) → Holds stopped rest pending → stop_by (is_cut stopped pending) ≡ stop_text rest
stop [] pending true h = absurd (false≢true (sym h))
stop (b ∷ rest) pending true h = refl
stop rest [] false h = ap stop_text (sym h)
stop rest (x ∷ pending) false h = ap stop_by (more (length pending)) ∙ ap stop_text (sym h)
  where
    more : (n : ℕ) → not (suc n == 0) ≡ true
    more n = grind (arith, nat_tests)

-- the bill after the calls that led to a table
abbrev pub bill_of : Table → List ℕ
bill_of t = bill_text (lines_below (λ p. shown_of (place_at t p)) place_count)

module _ (pile : Beam → Cage → ℕ) (stream text : List ℕ) (t : Table) (pending : List ℕ) (stopped : Bool) (l : Led pile stream text t pending stopped) where
  run_here : Run pile (calls_of l.exchanges) t
  run_here = subst (λ (calls : List Call). Run pile calls t) (reversed call_of l.exchanges) (run_of pile l.course)

  -- what the end adds to the lines
  added : (ending : List ℕ) → ending ≡ stop_by (is_cut stopped pending) ++ bill_of t → text ++ ending ≡ lines_text l.exchanges ++ (stop_text l.rest ++ bill_of t)
  added ending e =
      ap (λ (s : List ℕ). s ++ ending) l.printed
      ∙ ap (λ (s : List ℕ). lines_text l.exchanges ++ s) (e ∙ ap (λ (s : List ℕ). s ++ bill_of t) (stop l.rest pending stopped l.held))

  printed : (ending : List ℕ) → ending ≡ stop_by (is_cut stopped pending) ++ bill_of t → IsPrinted pile stream (text ++ ending)
  printed ending e =
      record {
        exchanges = l.exchanges;
        rest = l.rest;
        shown = λ p. shown_of (place_at t p);
        orders = record { whole = l.whole; unfinished = l.unfinished; answered = answered_of pile l.course };
        lawful = λ p. lawful pile (calls_of l.exchanges) t run_here p;
        text = added ending e;
      }

module _ {P : Type 0} (pile : Beam → Cage → ℕ) (console : Console P) (ending : List ℕ)
    (e : ending ≡ stop_by (is_cut console.stopped console.pending.items) ++ bill_of console.sheet.table) where
  here : (stream text : List ℕ) → Led pile stream text console.sheet.table console.pending.items console.stopped → IsPrinted pile stream (text ++ ending)
  here stream text l = printed pile stream text console.sheet.table console.pending.items console.stopped l ending e

  pub ends_printed : EndsPrinted pile console ending
  unfolding EndsPrinted
  ends_printed = here

  pub ends_lightest : EndsLightest pile console ending
  unfolding EndsLightest
  ends_lightest = λ stream text l. shows_lightest pile stream (text ++ ending) (here stream text l)

  pub ends_alone : EndsAlone pile console ending
  unfolding EndsAlone
  ends_alone =
      λ stream text other l q.
      alone pile stream l.exchanges l.rest console.sheet.table l.course l.whole l.unfinished other q
      ∙ sym (added pile stream text console.sheet.table console.pending.items console.stopped l ending e)

-- STOP and the bill, put together
pub both : (cut stopped : Bool) (pending head bill ending bytes : List ℕ) → cut ≡ is_cut stopped pending → head ≡ stop_by cut → bytes ≡ bill → ending ≡ head ++ bytes
    → ending ≡ stop_by (is_cut stopped pending) ++ bill
both cut stopped pending head bill ending bytes c s b e =
    e ∙ ap (λ (v : List ℕ). v ++ bytes) (s ∙ ap stop_by c) ∙ ap (λ (v : List ℕ). stop_by (is_cut stopped pending) ++ v) b
