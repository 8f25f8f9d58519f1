-- What the readers of a card answer.
use Rattle.std.specs.Prelude.{◌≡◌, ℕ, true, List, ℤ, Option, Result}
use Rattle.loads.specs.Effects.{Moderate}
use Rattle.card.specs.declared.body.Body.{Body}
use Rattle.card.specs.declared.fault.Fault.{Fault}
use Rattle.card.specs.declared.layout.Field.{Field}
use Rattle.card.specs.Card.{map_of, rest_of}
use Rattle.card.specs.Faults.{Answers}
use Rattle.card.specs.Layout.{layout}
use Rattle.card.specs.Numbers.{number_at, number_fault, value, field_fault, signed_at, load_fault}

-- what is left of a card once its map and length are judged
pub record IsBodyOf (card : List ℕ) (least : ℕ) (body : Body) : Type 0 where
  pub map : body.map.bits ≡ map_of card
  pub rest : body.rest.now ≡ rest_of card
  pub cover : body.least_cover ≡ least

-- the number of a field that begins at a place: it is allowed, or bad
abbrev pub NumberAs : Field → ℕ → List ℕ → ℕ → Result ℕ Fault → Type 0
NumberAs f least rest at =
    Answers (number_fault f least rest at)
    (λ v. (v ≡ number_at f rest at) × ((layout f).allowed least v ≡ true))

-- the moment or the shear that begins at a place: it is in range, or bad
abbrev pub LoadAs : List ℕ → ℕ → Result ℤ Fault → Type 0
LoadAs rest at =
    Answers (load_fault rest at) (λ z. (z ≡ signed_at rest at) × Moderate z)

-- a part of the beam, or the first bad number in it
abbrev pub Reads : {T : Type 0} → (ℕ → ℕ → List ℕ → Option Fault) → (ℕ → List ℕ → T → Type 0)
    → Body → Result T Fault → Type 0
Reads found Is body =
    Answers (found body.least_cover body.map.bits body.rest.now) (Is body.map.bits body.rest.now)

-- a field: its value, which is allowed, or the fault of its number
abbrev pub FieldAs : Field → Body → Result ℕ Fault → Type 0
FieldAs f body =
    Answers (field_fault f body.least_cover body.map.bits body.rest.now)
    (λ v. (v ≡ value f body.map.bits body.rest.now)
    × ((layout f).allowed body.least_cover v ≡ true))
