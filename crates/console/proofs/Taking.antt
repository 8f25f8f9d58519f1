-- What a byte makes of a console.
use Rattle.std.proofs.Common.{◌≡◌, ℕ, Bool, true, false, List, [], ◌∷◌, ◌++◌, map, reverse, Some, None, Option, Result, sym, refl, ap, ◌∙◌, subst, append-nil}
use Rattle.std.proofs.lemmas.List.{reverse-append, map_push, map-append}
use Rattle.std.proofs.lemmas.Grind.{flat_map-append}
use Rattle.arrayvec.specs.ArrayString.{ArrayString}
use Rattle.rebar.specs.declared.beam.Beam.{Beam}
use Rattle.rebar.specs.declared.cage.Cage.{Cage}
use Rattle.sheet.specs.declared.call.Answer.{Answer}
use Rattle.sheet.specs.declared.call.Call.{Call}
use Rattle.sheet.specs.declared.call.Exchange.{Exchange}
use Rattle.sheet.specs.declared.refusal.Refusal.{Refusal}
use Rattle.sheet.specs.declared.table.Table.{Table}
use Rattle.sheet.specs.Calls.{New, Makes, refusal}
use Rattle.sheet.specs.Law.{call_of, AllAnswered}
use Rattle.sheet.specs.Runs.{Run, opened as run_opened, made as run_made, AnswersLawfully}
use Rattle.console.specs.Lines.{text_of, lines_text}
use Rattle.console.specs.Orders.{Begins, NoOrder, Leaves, is_letter, begins_known}
use Rattle.console.specs.Printed.{IsPrintedSoFar}
use Rattle.console.specs.Streams.{Course, opened as course_opened, made, Holds, Led, LedTo, text_due, GoesOn, PrintsSoFar}
use Rattle.console.specs.declared.console.Console.{Console}
use Rattle.console.proofs.Orders.{leaves_more, one_more, ends_here, unknown, unknown_more, no_byte}

-- a map goes through a list turned round
pub reversed : {A B : Type 0} (f : A → B) (xs : List A) → map f (reverse xs) ≡ reverse (map f xs)
reversed f [] = refl
reversed f (x ∷ xs) =
    ap (map f) (reverse-append (x ∷ []) xs) ∙ map-append f (reverse xs) (x ∷ []) ∙ ap (λ l. l ++ f x ∷ []) (reversed f xs)
    ∙ sym (reverse-append (f x ∷ []) (map f xs))

module _ (pile : Beam → Cage → ℕ) where
  -- the calls of a course are a run of the sheet
  pub run_of : {exchanges : List Exchange} {t : Table} → Course pile exchanges t → Run pile (map call_of exchanges) t
  run_of (course_opened n) = run_opened n
  run_of (made call r course m lawful) = run_made call (refusal r) (run_of course) m

  -- and each is answered as the calls before it determine
  pub answered_of : {exchanges : List Exchange} {t : Table} → Course pile exchanges t → AllAnswered pile exchanges
  unfolding AnswersLawfully
  answered_of (course_opened n) = tt
  answered_of (made {exchanges = exchanges} call r course m lawful) = (lawful (map call_of exchanges) (run_of course), answered_of course)

  -- before the first byte
  pub opened : (t : Table) (pending : List ℕ) → New t → pending ≡ [] → Led pile [] [] t pending false
  opened t pending new none =
      record {
        exchanges = [];
        rest = [];
        whole = refl;
        unfinished = no_byte;
        course = course_opened new;
        printed = refl;
        held = sym none;
      }

  -- a byte with which no order is whole
  waits : (stream text : List ℕ) (t : Table) (pending pending' : List ℕ) (stopped stopped' : Bool) (b : ℕ) (l : Led pile stream text t pending stopped)
      → NoOrder (l.rest ++ b ∷ []) → Holds stopped' (l.rest ++ b ∷ []) pending' → Led pile (stream ++ b ∷ []) (text ++ []) t pending' stopped'
  waits stream text t pending pending' stopped stopped' b l none held =
      record {
        exchanges = l.exchanges;
        rest = l.rest ++ b ∷ [];
        whole = leaves_more stream (map call_of l.exchanges) l.rest (b ∷ []) l.whole;
        unfinished = none;
        course = l.course;
        printed = append-nil text ∙ l.printed;
        held = held;
      }

  -- a byte with which an order is whole
  takes : (stream text : List ℕ) (t t' : Table) (pending : List ℕ) (b : ℕ) (call : Call) (after : List ℕ) (r : Result Answer Refusal) (due : List ℕ)
      → Led pile stream text t pending false → Begins (pending ++ b ∷ []) call after → Makes pile t call (refusal r) t' → AnswersLawfully pile t call r
      → due ≡ text_of (record { call = call; answer = Some r }) → Led pile (stream ++ b ∷ []) (text ++ due) t' [] false
  takes stream text t t' pending b call after r due l begins m lawful shown =
      let x : Exchange = record { call = call; answer = Some r } in
      let here : Begins (l.rest ++ b ∷ []) call after = subst (λ (s : List ℕ). Begins (s ++ b ∷ []) call after) (sym l.held) begins in
      let done : after ≡ [] = ends_here l.rest b call after l.unfinished here in
      record {
        exchanges = l.exchanges ++ x ∷ [];
        rest = [];
        whole =
            subst (λ (v : List Call). Leaves (stream ++ b ∷ []) v []) (sym (map_push call_of l.exchanges x))
            (one_more (stream ++ b ∷ []) (map call_of l.exchanges) (l.rest ++ b ∷ []) call []
            (leaves_more stream (map call_of l.exchanges) l.rest (b ∷ []) l.whole)
            (subst (λ (s : List ℕ). Begins (l.rest ++ b ∷ []) call s) done here));
        unfinished = no_byte;
        course =
            subst (λ (v : List Exchange). Course pile v t') (sym (reverse-append l.exchanges (x ∷ [])))
            (made call r l.course m lawful);
        printed =
            ap (λ (s : List ℕ). s ++ due) l.printed
            ∙ ap (λ (s : List ℕ). lines_text l.exchanges ++ s) (shown ∙ sym (append-nil (text_of x)))
            ∙ sym (flat_map-append text_of l.exchanges (x ∷ []));
        held = refl;
      }

  -- the lines so far
  pub so_far : (stream text : List ℕ) (t : Table) (pending : List ℕ) (stopped : Bool) → Led pile stream text t pending stopped → IsPrintedSoFar pile stream text
  so_far stream text t pending stopped l =
      record {
        exchanges = l.exchanges;
        rest = l.rest;
        orders = record { whole = l.whole; unfinished = l.unfinished; answered = answered_of l.course };
        text = l.printed;
      }

module _ {P : Type 0} (pile : Beam → Cage → ℕ) (console console' : Console P) (b : ℕ) where
  -- the reading has stopped
  pub ignores : console.stopped ≡ true → console' ≡ console → GoesOn pile console b None console'
  unfolding GoesOn
  ignores on same =
      λ stream text l.
      subst (λ (c : Console P). LedTo pile (stream ++ b ∷ []) (text ++ []) c) (sym same)
      (go console.stopped on stream text l)
    where
      go : (stopped : Bool) → stopped ≡ true → (stream text : List ℕ) → Led pile stream text console.sheet.table console.pending.items stopped
          → Led pile (stream ++ b ∷ []) (text ++ []) console.sheet.table console.pending.items stopped
      go true e stream text l =
          let h = unknown_more l.rest (b ∷ []) l.held in
          waits pile stream text console.sheet.table console.pending.items console.pending.items true true b l (unknown (l.rest ++ b ∷ []) h) h
      go false e stream text l = absurd cc

  -- it stops at a letter that is unknown
  pub stops : console.stopped ≡ false → console'.stopped ≡ true → console'.sheet.table ≡ console.sheet.table → console.pending.items ≡ []
      → is_letter b ≡ false → GoesOn pile console b None console'
  unfolding GoesOn
  stops off on same none strange =
      λ stream text l.
      let l0 : Led pile stream text console.sheet.table console.pending.items false =
      subst (λ (s : Bool). Led pile stream text console.sheet.table console.pending.items s) off l in
      let h : begins_known (l0.rest ++ b ∷ []) ≡ false = subst (λ (s : List ℕ). begins_known (s ++ b ∷ []) ≡ false) (sym (l0.held ∙ none)) strange in
      subst (λ (t : Table). Led pile (stream ++ b ∷ []) (text ++ []) t console'.pending.items console'.stopped) (sym same)
      (subst (λ (s : Bool). Led pile (stream ++ b ∷ []) (text ++ []) console.sheet.table console'.pending.items s) (sym on)
      (waits pile stream text console.sheet.table console.pending.items console'.pending.items false true b l0 (unknown (l0.rest ++ b ∷ []) h) h))

  -- a byte of an order that is not whole with it
  pub holds : console.stopped ≡ false → console'.stopped ≡ console.stopped → console'.sheet.table ≡ console.sheet.table
      → console'.pending.items ≡ console.pending.items ++ b ∷ [] → NoOrder console'.pending.items → (line : Option ArrayString) → line ≡ None
      → GoesOn pile console b line console'
  unfolding GoesOn
  holds off still same one none line silent =
      λ stream text l.
      let l0 : Led pile stream text console.sheet.table console.pending.items false =
      subst (λ (s : Bool). Led pile stream text console.sheet.table console.pending.items s) off l in
      let h : l0.rest ++ b ∷ [] ≡ console'.pending.items = ap (λ (s : List ℕ). s ++ b ∷ []) l0.held ∙ sym one in
      subst (λ (v : Option ArrayString). Led pile (stream ++ b ∷ []) (text ++ text_due v) console'.sheet.table console'.pending.items console'.stopped) (sym silent)
      (subst (λ (t : Table). Led pile (stream ++ b ∷ []) (text ++ []) t console'.pending.items console'.stopped) (sym same)
      (subst (λ (s : Bool). Led pile (stream ++ b ∷ []) (text ++ []) console.sheet.table console'.pending.items s) (sym (still ∙ off))
      (waits pile stream text console.sheet.table console.pending.items console'.pending.items false false b l0
      (subst (λ (s : List ℕ). NoOrder s) (sym h) none) h)))

  -- the last byte of an order
  pub answers : (line : Option ArrayString) (call : Call) (after : List ℕ) (r : Result Answer Refusal) (pushed : List ℕ) (t' : Table)
      → console.stopped ≡ false → console'.stopped ≡ console.stopped → console'.sheet.table ≡ t' → console'.pending.items ≡ []
      → pushed ≡ console.pending.items ++ b ∷ [] → Begins pushed call after → Makes pile console.sheet.table call (refusal r) t'
      → AnswersLawfully pile console.sheet.table call r → text_due line ≡ text_of (record { call = call; answer = Some r }) → GoesOn pile console b line console'
  unfolding GoesOn
  answers line call after r pushed t' off still same none one begins m lawful shown =
      λ stream text l.
      let l0 : Led pile stream text console.sheet.table console.pending.items false =
      subst (λ (s : Bool). Led pile stream text console.sheet.table console.pending.items s) off l in
      subst (λ (t : Table). Led pile (stream ++ b ∷ []) (text ++ text_due line) t console'.pending.items console'.stopped) (sym same)
      (subst (λ (s : Bool). Led pile (stream ++ b ∷ []) (text ++ text_due line) t' console'.pending.items s) (sym (still ∙ off))
      (subst (λ (v : List ℕ). Led pile (stream ++ b ∷ []) (text ++ text_due line) t' v false) (sym none)
      (takes pile stream text console.sheet.table t' console.pending.items b call after r (text_due line) l0
      (subst (λ (v : List ℕ). Begins v call after) one begins) m lawful shown)))

  -- so the lines of the orders that stand whole are printed
  pub prints : (line : Option ArrayString) → GoesOn pile console b line console' → PrintsSoFar pile console b line
  unfolding GoesOn PrintsSoFar
  prints line h =
      λ stream text l.
      so_far pile (stream ++ b ∷ []) (text ++ text_due line) console'.sheet.table console'.pending.items console'.stopped (h stream text l)
