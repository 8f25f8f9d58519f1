-- What is printed is determined by the stream: its orders are the only ones, but for where their cards lie, and they determine
-- the answers and the bill.
use Rattle.std.proofs.Common.{◌≡◌, ℕ, zero, suc, List, [], ◌∷◌, ◌++◌, map, reverse, Some, None, Ok, Err, Option, Result, sym, refl, ap, ◌∙◌, subst, append-nil}
use Rattle.std.proofs.lemmas.List.{reverse-append, reverse-reverse}
use Rattle.std.proofs.lemmas.Grind.{flat_map-append}
use Rattle.std.proofs.lemmas.Option.{none-some}
use Rattle.rebar.specs.declared.beam.Beam.{Beam}
use Rattle.rebar.specs.declared.cage.Cage.{Cage}
use Rattle.search.specs.declared.decision.Choice.{Choice}
use Rattle.sheet.specs.declared.call.Answer.{Answer}
use Rattle.sheet.specs.declared.call.Answer.TheVariants.{Done, Shows, Designs}
use Rattle.sheet.specs.declared.call.Call.{Call}
use Rattle.sheet.specs.declared.call.Call.TheVariants.{Design, Read, Count}
use Rattle.sheet.specs.declared.call.Exchange.{Exchange}
use Rattle.sheet.specs.declared.reading.Reading.{Reading}
use Rattle.sheet.specs.declared.reading.Shown.{Shown}
use Rattle.sheet.specs.declared.refusal.Refusal.{Refusal}
use Rattle.sheet.specs.declared.table.Table.{Table}
use Rattle.sheet.specs.Calls.{refusal}
use Rattle.sheet.specs.Law.{call_of, calls_of, Tells, Answers, HasAnswer, AllAnswered}
use Rattle.sheet.specs.Places.{shown_of}
use Rattle.sheet.specs.Table.{place_at}
use Rattle.sheet.specs.Size.{place_count}
use Rattle.sheet.specs.Runs.{Run, opened as run_opened, made as run_made, AnswersLawfully}
use Rattle.sheet.proofs.Runs.{lawful}
use Rattle.sheet.proofs.Shows.{one_shown}
use Rattle.bill.specs.Whole.{bill_text, line_at}
use Rattle.console.specs.Bills.{lines_below}
use Rattle.console.specs.declared.line.Outcome.{Outcome}
use Rattle.console.specs.Lines.{line_text, outcome_shown, outcome_of, head_of, text_by, text_of, lines_text}
use Rattle.console.specs.Orders.{NoOrder, Leaves}
use Rattle.console.specs.Printed.{stop_text, Answered, IsPrinted, IsPrintedSoFar}
use Rattle.console.specs.Streams.{Course, opened, made}
use Rattle.console.proofs.Alike.{plain, same_head, alike_makes, alike_answers}
use Rattle.console.proofs.Orders.{one_leaving}
use Rattle.console.proofs.Taking.{reversed}

module _ (pile : Beam → Cage → ℕ) (calls : List Call) where
  -- no call is told two kinds of answers
  not_shown : (c : Call) (y : Reading) → Tells pile calls c Done → Tells pile calls c (Shows y) → ⊥
  not_shown (Design p) y h k = h
  not_shown (Read p) y h k = h
  not_shown c y h k = k

  not_counted : (c : Call) (m : ℕ) → Tells pile calls c Done → Tells pile calls c (Designs m) → ⊥
  not_counted Count m h k = h
  not_counted c m h k = k

  shown_not_counted : (c : Call) (x : Reading) (m : ℕ) → Tells pile calls c (Shows x) → Tells pile calls c (Designs m) → ⊥
  shown_not_counted Count x m h k = h
  shown_not_counted c x m h k = k

  -- the calls before determine what a place shows to a call
  one_reading : (c : Call) (x y : Reading) → Tells pile calls c (Shows x) → Tells pile calls c (Shows y) → x.shown ≡ y.shown
  one_reading (Design p) x y h k = one_shown pile (Design p ∷ calls) p x.shown y.shown h.1.right k.1.right
  one_reading (Read p) x y h k = one_shown pile calls p x.shown y.shown h.1.right k.1.right
  one_reading c x y h k = absurd h

  -- and so what is printed of it
  one_told : (c : Call) (a b : Answer) → Tells pile calls c a → Tells pile calls c b → outcome_of (Ok a) ≡ outcome_of (Ok b)
  one_told c Done Done h k = refl
  one_told c Done (Shows y) h k = absurd (not_shown c y h k)
  one_told c Done (Designs m) h k = absurd (not_counted c m h k)
  one_told c (Shows x) Done h k = absurd (not_shown c x k h)
  one_told c (Shows x) (Shows y) h k = ap (λ (v : Shown). Ok (outcome_shown v)) (one_reading c x y h k)
  one_told c (Shows x) (Designs m) h k = absurd (shown_not_counted c x m h k)
  one_told c (Designs n) Done h k = absurd (not_counted c n k h)
  one_told c (Designs n) (Shows y) h k = absurd (shown_not_counted c y n k h)
  one_told c (Designs n) (Designs m) h k = refl

  one_answer : (c : Call) (r s : Result Answer Refusal) → Answers pile calls c r → Answers pile calls c s → outcome_of r ≡ outcome_of s
  one_answer c (Ok a) (Ok b) h k = one_told c a b h.1 k.1
  one_answer c (Ok a) (Err e) h k = absurd (none-some e (sym h.0 ∙ k))
  one_answer c (Err e) (Ok b) h k = absurd (none-some e (sym k.0 ∙ h))
  one_answer c (Err e) (Err f) h k = let i : Some e ≡ Some f = sym h ∙ k in let j : e ≡ f = cc in ap (λ (v : Refusal). Err v) j

  by_outcome : (head : Option (ℕ × ℕ)) (r s : Result Answer Refusal) → outcome_of r ≡ outcome_of s → text_by head (Some r) ≡ text_by head (Some s)
  by_outcome None r s e = refl
  by_outcome (Some head) r s e = ap (λ (v : Result Outcome Refusal). line_text head.0 head.1 v) e

  -- two calls that are alike have the same line
  same_line : (c d : Call) (r : Result Answer Refusal) (o : Option (Result Answer Refusal)) → plain c ≡ plain d → HasAnswer (Answers pile calls d) o
      → Answers pile calls d r → text_by (head_of c) (Some r) ≡ text_by (head_of d) o
  same_line c d r None same h mine = absurd h
  same_line c d r (Some s) same h mine =
      ap (λ (v : Option (ℕ × ℕ)). text_by v (Some r)) (sym (same_head c) ∙ ap head_of same ∙ same_head d)
      ∙ by_outcome (head_of d) r s (one_answer d r s mine h)

-- the line of one exchange more
line_more : (x : Exchange) (xs : List Exchange) → lines_text (reverse (x ∷ xs)) ≡ lines_text (reverse xs) ++ text_of x
line_more x xs =
    ap lines_text (reverse-append (x ∷ []) xs) ∙ flat_map-append text_of (reverse xs) (x ∷ [])
    ∙ ap (λ (v : List ℕ). lines_text (reverse xs) ++ v) (append-nil (text_of x))

module _ (pile : Beam → Cage → ℕ) where
  -- other exchanges with the same calls, the newest first, have the same lines, and lead to the same table
  same_course : {xs : List Exchange} {t : Table} → Course pile xs t → (ys : List Exchange) → AllAnswered pile ys
      → map plain (map call_of xs) ≡ map plain (map call_of ys) → (lines_text (reverse xs) ≡ lines_text (reverse ys)) × Run pile (map call_of ys) t
  unfolding AnswersLawfully
  same_course (opened n) [] a e = (refl, run_opened n)
  same_course (opened n) (y ∷ ys) a e = absurd cc
  same_course (made call r course m law) [] a e = absurd cc
  same_course (made {exchanges = xs} {t = t} {t' = t'} call r course m law) (y ∷ ys) a e =
      let tail : map plain (map call_of xs) ≡ map plain (map call_of ys) = cc in
      let head : plain call ≡ plain y.call = cc in
      let i = same_course course ys a.1 tail in
      let mine : Answers pile (map call_of ys) y.call r = alike_answers pile (map call_of ys) r call y.call head (law (map call_of ys) i.1) in
      let line : text_by (head_of call) (Some r) ≡ text_by (head_of y.call) y.answer = same_line pile (map call_of ys) call y.call r y.answer head a.0 mine in
      let x : Exchange = record { call = call; answer = Some r } in (
        line_more x xs ∙ ap (λ (v : List ℕ). v ++ text_of x) i.0 ∙ ap (λ (v : List ℕ). lines_text (reverse ys) ++ v) line ∙ sym (line_more y ys),
        run_made y.call (refusal r) i.1 (alike_makes pile t t' (refusal r) call y.call head m),
      )

  turned : (xs ys : List Exchange) → map plain (map call_of xs) ≡ map plain (map call_of ys)
      → map plain (map call_of (reverse xs)) ≡ map plain (map call_of (reverse ys))
  turned xs ys e = there xs ∙ ap reverse e ∙ sym (there ys)
    where
      there : (zs : List Exchange) → map plain (map call_of (reverse zs)) ≡ reverse (map plain (map call_of zs))
      there zs = ap (map plain) (reversed call_of zs) ∙ reversed plain (map call_of zs)

  same_lines : (shown other : ℕ → Shown) → ((p : ℕ) → shown p ≡ other p) → (n : ℕ) → lines_below shown n ≡ lines_below other n
  same_lines shown other e zero = refl
  same_lines shown other e (suc n) =
      ap (λ (v : List (ℕ × Choice)). v ++ line_at n (shown n)) (same_lines shown other e n) ∙ ap (λ (v : Shown). lines_below other n ++ line_at n v) (e n)

  -- of a stream that has led to a table, other orders with their answers are the same, but for where their cards lie
  module _ (stream : List ℕ) (xs : List Exchange) (rest : List ℕ) (t : Table) (course : Course pile (reverse xs) t)
      (whole : Leaves stream (map call_of xs) rest) (none : NoOrder rest) where
    same_orders : (ys : List Exchange) (left : List ℕ) → Answered pile stream ys left
        → (lines_text xs ≡ lines_text ys) × (Run pile (calls_of ys) t × (rest ≡ left))
    same_orders ys left q =
        let s = one_leaving stream (map call_of xs) (map call_of ys) rest left whole none q.whole q.unfinished in
        let w = same_course course (reverse ys) q.answered (turned xs ys s.0) in (
          ap lines_text (sym (reverse-reverse xs)) ∙ w.0 ∙ ap lines_text (reverse-reverse ys),
          (subst (λ (calls : List Call). Run pile calls t) (reversed call_of ys) w.1, s.1),
        )

    -- nothing else is printed
    pub alone : (other : List ℕ) → IsPrinted pile stream other
        → other ≡ lines_text xs ++ (stop_text rest ++ bill_text (lines_below (λ p. shown_of (place_at t p)) place_count))
    alone other q =
        let s = same_orders q.exchanges q.rest q.orders in
        let shows =
        same_lines q.shown (λ p. shown_of (place_at t p))
        (λ p. one_shown pile (calls_of q.exchanges) p (q.shown p) (shown_of (place_at t p)) (q.lawful p).right (lawful pile (calls_of q.exchanges) t s.1.0 p).right)
        place_count in
        q.text ∙ ap (λ (v : List ℕ). v ++ (stop_text q.rest ++ bill_text (lines_below q.shown place_count))) (sym s.0)
        ∙ ap (λ (v : List ℕ). lines_text xs ++ (stop_text v ++ bill_text (lines_below q.shown place_count))) (sym s.1.1)
        ∙ ap (λ (v : List (ℕ × Choice)). lines_text xs ++ (stop_text rest ++ bill_text v)) shows

    -- nor before the end
    pub alone_so_far : (other : List ℕ) → IsPrintedSoFar pile stream other → other ≡ lines_text xs
    alone_so_far other q = q.text ∙ sym (same_orders q.exchanges q.rest q.orders).0
