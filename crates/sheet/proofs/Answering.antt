-- The answers to calls of any kind.
use Rattle.std.proofs.Common.{◌≡◌, ℕ, List, ◌∷◌, Some, None, IfOk, ◌∙◌, Ok, Err, Result, refl, sym, subst}
use Rattle.std.proofs.lemmas.Option.{none-some}
use Rattle.rebar.specs.declared.beam.Beam.{Beam}
use Rattle.rebar.specs.declared.cage.Cage.{Cage}
use Rattle.sheet.specs.declared.call.Answer.{Answer}
use Rattle.sheet.specs.declared.call.Answer.TheVariants as answer
use Rattle.sheet.specs.declared.call.Call.{Call}
use Rattle.sheet.specs.declared.call.Call.TheVariants as call
use Rattle.sheet.specs.declared.reading.Reading.{Reading}
use Rattle.sheet.specs.declared.reading.Shown.{Shown}
use Rattle.sheet.specs.declared.refusal.Refusal.{Refusal}
use Rattle.sheet.specs.declared.refusal.Refusal.TheVariants.{NoSuchPlace}
use Rattle.sheet.specs.declared.table.Table.{Table}
use Rattle.sheet.specs.Calls.{Makes, Reads, refusal, done, shows}
use Rattle.sheet.specs.Law.{Tells, Answers, Lawful}
use Rattle.sheet.specs.Runs.{Grows, ReadsLawfully, CountsDesigns, AnswersLawfully}
use Rattle.sheet.proofs.Numbers.{there, past}
use Rattle.sheet.proofs.Runs.{grows, lawful}

module _ (pile : Beam → Cage → ℕ) (t : Table) where
  pub done_made : (c : Call) (r : Result Unit Refusal) (x : Result Answer Refusal) (t' : Table) → x ≡ done r → Makes pile t c (refusal r) t'
      → Makes pile t c (refusal x) t'
  done_made c (Ok u) x t' e m = subst (λ (v : Result Answer Refusal). Makes pile t c (refusal v) t') (sym e) m
  done_made c (Err f) x t' e m = subst (λ (v : Result Answer Refusal). Makes pile t c (refusal v) t') (sym e) m

  -- a call that only changes the sheet
  pub done_lawfully : (c : Call) (r : Result Unit Refusal) (x : Result Answer Refusal) (t' : Table) → x ≡ done r → Grows pile t c (refusal r) t'
      → ((calls : List Call) → Tells pile calls c answer.Done) → AnswersLawfully pile t c x
  unfolding Grows AnswersLawfully
  done_lawfully c (Ok u) x t' e g tells = λ calls run. subst (λ (v : Result Answer Refusal). Answers pile calls c v) (sym e) ((g calls run).1, tells calls)
  done_lawfully c (Err f) x t' e g tells = λ calls run. subst (λ (v : Result Answer Refusal). Answers pile calls c v) (sym e) (g calls run).1

  -- a reading
  pub read_made : (p : ℕ) (r : Result Reading Refusal) (x : Result Answer Refusal) → x ≡ shows r → Reads p t r → Makes pile t (call.Read p) (refusal x) t
  read_made p (Ok u) x e h = subst (λ (v : Result Answer Refusal). Makes pile t (call.Read p) (refusal v) t) (sym e) (rw (there p h.0) refl, refl)
  read_made p (Err f) x e h = subst (λ (v : Result Answer Refusal). Makes pile t (call.Read p) (refusal v) t) (sym e) (rw (past p h.0, h.1) refl, refl)

  pub shown_lawfully : (p : ℕ) (r : Result Reading Refusal) (x : Result Answer Refusal) (t' : Table) → x ≡ shows r → Reads p t r
      → Grows pile t (call.Read p) (refusal r) t' → ReadsLawfully pile t p r → AnswersLawfully pile t (call.Read p) x
  unfolding Grows ReadsLawfully AnswersLawfully
  shown_lawfully p (Ok reading) x t' e is g l =
      λ calls run. subst (λ (v : Result Answer Refusal). Answers pile calls (call.Read p) v) (sym e) ((g calls run).1, (is.1, l calls run))
  shown_lawfully p (Err f) x t' e is g l =
      λ calls run. subst (λ (v : Result Answer Refusal). Answers pile calls (call.Read p) v) (sym e) (g calls run).1

  -- a design order, and the reading that follows it
  pub read_designed : (p : ℕ) (r : Result Reading Refusal) (t' : Table) → Makes pile t (call.Design p) None t' → Reads p t' r
      → Makes pile t (call.Design p) (refusal r) t'
  read_designed p (Ok reading) t' m h = m
  read_designed p (Err e) t' m h = absurd (none-some NoSuchPlace (sym m.0 ∙ rw (past p h.0) refl))

  pub design_made : (p : ℕ) (r : Result Reading Refusal) (x : Result Answer Refusal) (t' : Table) → x ≡ shows r → Makes pile t (call.Design p) (refusal r) t'
      → Makes pile t (call.Design p) (refusal x) t'
  design_made p (Ok reading) x t' e m = subst (λ (v : Result Answer Refusal). Makes pile t (call.Design p) (refusal v) t') (sym e) m
  design_made p (Err f) x t' e m = subst (λ (v : Result Answer Refusal). Makes pile t (call.Design p) (refusal v) t') (sym e) m

  pub designed_lawfully : (p : ℕ) (r : Result Reading Refusal) (x : Result Answer Refusal) (t' : Table) → x ≡ shows r → Makes pile t (call.Design p) (refusal r) t'
      → IfOk r (λ reading. Reads p t' (Ok reading)) → AnswersLawfully pile t (call.Design p) x
  unfolding Grows AnswersLawfully
  designed_lawfully p (Ok reading) x t' e m h =
      λ calls run.
      let g = grows pile t (call.Design p) None t' m calls run in
      let l : Lawful pile (call.Design p ∷ calls) p reading.shown =
      subst (λ (s : Shown). Lawful pile (call.Design p ∷ calls) p s) (sym h.2) (lawful pile (call.Design p ∷ calls) t' g.0 p) in
      subst (λ (v : Result Answer Refusal). Answers pile calls (call.Design p) v) (sym e) (g.1, (h.1, l))
  designed_lawfully p (Err f) x t' e m h =
      λ calls run. subst (λ (v : Result Answer Refusal). Answers pile calls (call.Design p) v) (sym e) (grows pile t (call.Design p) (Some f) t' m calls run).1

  -- the count
  pub counted_lawfully : (n : ℕ) → CountsDesigns pile t n → AnswersLawfully pile t call.Count (Ok (answer.Designs n))
  unfolding CountsDesigns AnswersLawfully
  counted_lawfully n h = λ calls run. (refl, h calls run)
