-- The loop over the calls of a list, one after the other.
use Rattle.std.proofs.Common.{◌≡◌, ℕ, ◌+◌, ◌<◌, ◌≤◌, List, [], ◌∷◌, ◌++◌, map, reverse, length, take, Some, Result, slice_index_or, slice_set, refl, sym, subst, ap, ◌∙◌}
use Rattle.std.proofs.Math.Seq.{map-set_same}
use Rattle.std.proofs.lemmas.List.{reverse-append, map-append, take_all, take_more_set}
use Rattle.rebar.specs.declared.beam.Beam.{Beam}
use Rattle.rebar.specs.declared.cage.Cage.{Cage}
use Rattle.sheet.specs.declared.call.Answer.{Answer}
use Rattle.sheet.specs.declared.call.Call.{Call}
use Rattle.sheet.specs.declared.call.Exchange.{Exchange}
use Rattle.sheet.specs.declared.refusal.Refusal.{Refusal}
use Rattle.sheet.specs.declared.table.Table.{Table}
use Rattle.sheet.specs.Calls.{Makes, refusal}
use Rattle.sheet.specs.Law.{call_of, calls_of, AllAnswered}
use Rattle.sheet.specs.Runs.{Run, made, AnswersLawfully}

-- the calls of some exchanges have led to a table, and each is answered
pub record Made (pile : Beam → Cage → ℕ) (exchanges : List Exchange) (t : Table) : Type 0 where
  pub run : Run pile (map call_of (reverse exchanges)) t
  pub answered : AllAnswered pile (reverse exchanges)

abbrev pub answered_by : Exchange → Result Answer Refusal → Exchange
answered_by x r = record { call = x.call; answer = Some r }

module _ (pile : Beam → Cage → ℕ) (xs : List Exchange) (i : ℕ) (t t' : Table) (d : Exchange) (r : Result Answer Refusal) (within : i < length xs) where
  abbrev next : Exchange
  next = answered_by (slice_index_or xs i d) r

  -- one more call, made and answered
  pub one_more : Made pile (take i xs) t → Makes pile t next.call (refusal r) t' → AnswersLawfully pile t next.call r → Made pile (take (i + 1) (slice_set xs i next)) t'
  unfolding AnswersLawfully
  one_more m does lawful =
      subst (λ (v : List Exchange). Made pile v t') (sym (take_more_set xs i next within))
      (let e : reverse (take i xs ++ next ∷ []) ≡ next ∷ reverse (take i xs) = reverse-append (take i xs) (next ∷ []) in
      record {
        run = subst (λ (v : List Exchange). Run pile (map call_of v) t') (sym e) (made next.call (refusal r) m.run does);
        answered = subst (λ (v : List Exchange). AllAnswered pile v) (sym e) (lawful (map call_of (reverse (take i xs))) m.run, m.answered);
      })

  -- the calls stay
  pub same_calls : map call_of (slice_set xs i next) ≡ map call_of xs
  same_calls = map-set_same call_of xs i next d refl

-- when the loop ends
ended : (pile : Beam → Cage → ℕ) (xs : List Exchange) (i : ℕ) (t : Table) → length xs ≤ i → Made pile (take i xs) t → Made pile xs t
ended pile xs i t h = subst (λ (v : List Exchange). Made pile v t) (take_all i xs h)

reversed : {A B : Type 0} (f : A → B) (xs : List A) → map f (reverse xs) ≡ reverse (map f xs)
reversed f [] = refl
reversed f (x ∷ xs) =
    ap (map f) (reverse-append (x ∷ []) xs) ∙ map-append f (reverse xs) (x ∷ []) ∙ ap (λ l. l ++ f x ∷ []) (reversed f xs)
    ∙ sym (reverse-append (f x ∷ []) (map f xs))

-- when the loop ends, the calls as they came have led to the sheet
pub history : (pile : Beam → Cage → ℕ) (xs old : List Exchange) (i : ℕ) (t : Table) → length xs ≤ i → Made pile (take i xs) t → map call_of xs ≡ map call_of old
    → Run pile (calls_of old) t
history pile xs old i t h m e =
    subst (λ (calls : List Call). Run pile calls t) (reversed call_of xs ∙ ap reverse e) (ended pile xs i t h m).run
