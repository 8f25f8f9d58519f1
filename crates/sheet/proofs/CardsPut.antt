-- The beam of a card put at a place is what enter does at an empty place, and correct at one that holds a beam.
use Rattle.std.proofs.Common.{◌≡◌, ℕ, ◌≤◌, true, false, List, Some, None, Option, Ok, Err, Result, is_some, is_none, Bor, refl, arith, ◌∙◌}
use Rattle.rebar.specs.declared.beam.Beam.{Beam}
use Rattle.rebar.specs.declared.cage.Cage.{Cage}
use Rattle.sheet.specs.declared.call.Call.{Call}
use Rattle.sheet.specs.declared.call.Call.TheVariants.{Enter, Correct}
use Rattle.sheet.specs.declared.entry.Entry.{Entry}
use Rattle.sheet.specs.declared.refusal.Refusal.{Refusal}
use Rattle.sheet.specs.declared.table.Table.{Table}
use Rattle.card.specs.Card.{card_fault}
use Rattle.sheet.specs.Calls.{why, refusal_of, PutsCard, PutsCardOrRefuses, Does, Makes, refusal}
use Rattle.sheet.specs.Size.{last_place}
use Rattle.sheet.specs.Table.{place_at}
use Rattle.sheet.proofs.Numbers.{there}

some : (held : Option Entry) → is_none held ≡ false → is_some held ≡ true
some None e = grind (arith, e)
some (Some x) e = refl

module _ (answer : Beam → Cage → ℕ) (t t' : Table) (p : ℕ) (card : Bor (List ℕ)) where
  put_there : (call : Call) → (PutsCard p card.now t t' → Does answer t call t') → why t call ≡ refusal_of (card_fault card.now)
      → (r : Result Unit Refusal) → PutsCardOrRefuses p card.now t r t' → Makes answer t call (refusal r) t'
  put_there call does e (Ok _) h = (grind (arith, e, h.0), does h.1)
  put_there call does e (Err _) h = (e ∙ h.0, h.1)

  pub entered : (r : Result Unit Refusal) → p ≤ last_place → is_some (place_at t p) ≡ false → PutsCardOrRefuses p card.now t r t'
      → Makes answer t (Enter p card) (refusal r) t'
  entered r a b = put_there (Enter p card) (λ h. h) (rw (there p a, b) refl) r

  pub corrected : (r : Result Unit Refusal) → p ≤ last_place → is_none (place_at t p) ≡ false → PutsCardOrRefuses p card.now t r t'
      → Makes answer t (Correct p card) (refusal r) t'
  corrected r a b = put_there (Correct p card) (λ h. h) (rw (there p a, some (place_at t p) b) refl) r
