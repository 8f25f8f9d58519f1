-- What is printed, and that every line of its bill shows the lightest cage.
use Rattle.std.proofs.Common.{ℕ, zero, suc, List, [], ◌∷◌, All, arith}
use Rattle.std.proofs.lemmas.List.Elements.{All-append}
use Rattle.rebar.specs.declared.beam.Beam.{Beam}
use Rattle.rebar.specs.declared.cage.Cage.{Cage}
use Rattle.sheet.specs.declared.call.Call.{Call}
use Rattle.sheet.specs.declared.reading.Shown.{Shown}
use Rattle.sheet.specs.declared.reading.Shown.TheVariants.{Empty, Open, Chosen, Impossible}
use Rattle.sheet.specs.Size.{place_count}
use Rattle.sheet.specs.Law.{calls_of, Lawful}
use Rattle.bill.specs.Whole.{line_at}
use Rattle.console.specs.Bills.{lines_below}
use Rattle.console.specs.Printed.{IsPrinted, IsLightestAfter, ShowsLightest}

one : {A : Type 0} (P : A → Type 0) (x : A) → P x → All P (x ∷ [])
one P x h zero d l = h
one P x h (suc k) d l = absurd (omega (arith, l))

none : {A : Type 0} (P : A → Type 0) → All P []
none P k d l = absurd (omega (arith, l))

-- a place that shows a chosen cage shows the lightest
here : (pile : Beam → Cage → ℕ) (calls : List Call) (p : ℕ) (s : Shown) → Lawful pile calls p s → All (IsLightestAfter pile calls) (line_at p s)
here pile calls p Empty h = none (IsLightestAfter pile calls)
here pile calls p Open h = none (IsLightestAfter pile calls)
here pile calls p (Chosen x) h = one (IsLightestAfter pile calls) (p, x) h.right.0
here pile calls p (Impossible n) h = none (IsLightestAfter pile calls)

all_lightest : (pile : Beam → Cage → ℕ) (calls : List Call) (shown : ℕ → Shown) → ((p : ℕ) → Lawful pile calls p (shown p)) → (n : ℕ)
    → All (IsLightestAfter pile calls) (lines_below shown n)
all_lightest pile calls shown h zero = none (IsLightestAfter pile calls)
all_lightest pile calls shown h (suc n) =
    All-append (IsLightestAfter pile calls) (lines_below shown n) (line_at n (shown n)) (all_lightest pile calls shown h n) (here pile calls n (shown n) (h n))

pub shows_lightest : (pile : Beam → Cage → ℕ) (stream out : List ℕ) → IsPrinted pile stream out → ShowsLightest pile stream out
shows_lightest pile stream out p =
    record { printed = p; lightest = all_lightest pile (calls_of p.exchanges) p.shown p.lawful place_count }
