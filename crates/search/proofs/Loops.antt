-- One turn of each loop of the search, and its end.
use Rattle.std.proofs.Common.{◌≡◌, ℕ, ◌+◌, ◌<◌, Bool, refl, inl, inr, arith}
use native.Mathlib.Decide.{dec_lt}
use Rattle.rebar.specs.declared.beam.Beam.{Beam}
use Rattle.rebar.specs.declared.cage.Cage.{Cage}
use Rattle.stock.specs.declared.kind.Kind.{Kind}
use Rattle.search.specs.declared.decision.Decision.{Decision}
use Rattle.search.specs.declared.decision.Decision.TheVariants.{Chosen, Impossible}
use Rattle.search.specs.Lightest.{FromStock, Lightest}
use Rattle.search.specs.Search.{Covers, Step, Done}

-- a loop over the cages of which P holds, by the place of their part; at place k that part is t
module _ {answer : Beam → Cage → ℕ} {got : Kind → ℕ → Bool} {beam : Beam} {X : Type 0}
    (place : X → ℕ) (part : Cage → X) (P : Cage → Type 0) {k : ℕ} {t : X} (here : (x : X) → place x ≡ k → x ≡ t) where
  -- a turn
  pub turned : {first old new : Decision} → Step answer got beam first old → Step answer got beam old new
      → ((d : Cage) → P d → part d ≡ t → Covers answer beam new d)
      → Done answer beam (λ d. P d × (place (part d) < k)) old
      → Step answer got beam first new × Done answer beam (λ d. P d × (place (part d) < k + 1)) new
  turned r s covers done = (
    record { sound = λ x. s.sound (r.sound x); keeps = λ d x. s.keeps d (r.keeps d x) },
    λ d p.
        elim (dec_lt (place (part d)) k) [
          | yes l ↦ s.keeps d (done d (p.0, l))
          | no l ↦ covers d p.0 (here (part d) (omega (arith, p.1)))
        ],
  )

-- from one decision by another to a third
pub by_another : (answer : Beam → Cage → ℕ) (got : Kind → ℕ → Bool) (beam : Beam) (first other last : Decision)
    → Step answer got beam first other → Step answer got beam other last → Step answer got beam first last
by_another answer got beam first other last r s = record { sound = λ x. s.sound (r.sound x); keeps = λ d x. s.keeps d (r.keeps d x) }

-- all places done, with no cage found before
pub settled : (answer : Beam → Cage → ℕ) (got : Kind → ℕ → Bool) (beam : Beam) (r : Decision) → Step answer got beam (Impossible 0) r
    → Done answer beam (FromStock got) r → Lightest answer got beam r
settled answer got beam (Chosen x) s done = let found = s.sound (inl refl) in (
  found.0,
  found.1,
  found.2,
  λ d f z h. done d f z (rw found.2 h),
)
settled answer got beam (Impossible n) s done = (
  done,
  elim (s.sound (inl refl)) [
    | inl z ↦ inr (z, λ d f. let h = done d f in h.0 (omega (arith, h.1)))
    | inr x ↦ inl x
  ],
)
