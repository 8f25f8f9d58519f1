-- A card has no fault exactly where it is well formed.
use Rattle.std.proofs.Common.{◌≡◌, ℕ, zero, suc, ◌+◌, ◌*◌, ◌<◌, ◌≤◌, ◌↔◌, Bool, true, false, cond, List, Some, None, Ok, Err, Option, Result, refl, subst, arith, length}
use Rattle.std.proofs.lemmas.Bool.Decides.{nat_tests}
use Rattle.std.proofs.lemmas.Int.{ints}
use Rattle.std.specs.Prelude.{ℤ, nat_lt}
use Rattle.std.specs.List.{AllByRecursion}
use Rattle.loads.specs.Effects.{Moderate, moderate}
use Rattle.rebar.specs.declared.beam.Beam.{Beam}
use Rattle.card.specs.declared.fault.Fault.{Fault}
use Rattle.card.specs.declared.layout.Field.{Field}
use Rattle.card.specs.declared.layout.Field.TheVariants.{Width, Height, Cover, Concrete, Steel, Aggregate, Frame, Span, ShearFactor}
use Rattle.loads.specs.declared.loads.LoadCase.{LoadCase}
use Rattle.loads.specs.declared.loads.LoadCase.TheVariants.{Dead, Live, Wind, Earthquake}
use Rattle.card.specs.Card.{map_of, rest_of, map_fault, shape_fault, card_fault, CardAs}
use Rattle.card.specs.Faults.{first}
use Rattle.card.specs.Layout.{layout, load_bit, least_cover}
use Rattle.card.specs.Map.{stands, unknown, required_bits, required, offset, asked_bytes}
use Rattle.card.specs.Numbers.{field_fault, number_fault, load_fault, number_at, signed_at}
use Rattle.card.specs.Parts.{section_fault, materials_fault, member_fault, case_fault, forces_fault, loads_fault, values_fault}
use Rattle.card.proofs.Bits.{known_exactly}
use Rattle.card.specs.WellFormed.{WellFormed, FieldsFine, LoadsFine, TakenExactly}

-- neither of two faults
neither : (a b : Option Fault) → first a b ≡ None → (a ≡ None) × (b ≡ None)
neither None b h = (refl, h)
neither (Some e) b h = cc

none_of_three : (a b c : Option Fault) → first a (first b c) ≡ None → (a ≡ None) × (b ≡ None) × (c ≡ None)
none_of_three a b c h = let p = neither a _ h in let q = neither b c p.1 in (p.0, q.0, q.1)

-- what has no fault passes its test
passes : (t : Bool) (e : Fault) → cond t None (Some e) ≡ None → t ≡ true
passes true e h = refl
passes false e h = cc

moderate_exactly : (z : ℤ) → (moderate z ≡ true) ↔ Moderate z
moderate_exactly z = (λ h. (grind (arith, ints), grind (arith, ints)), λ h. grind (arith, ints))

-- the numbers of fields
field_exactly : (f : Field) (map : ℕ) (rest : List ℕ)
    → (field_fault f least_cover map rest ≡ None)
    ↔ (stands map (layout f).bit ≡ true → (layout f).allowed least_cover (number_at f rest (offset map (layout f).bit)) ≡ true)
unfolding field_fault number_fault
field_exactly f map rest = (there (stands map (layout f).bit) _ _, back (stands map (layout f).bit) _ _)
  where
    there : (s t : Bool) (e : Fault) → cond s (cond t None (Some e)) None ≡ None → s ≡ true → t ≡ true
    there true t e h on = passes t e h
    there false t e h on = cc

    back : (s t : Bool) (e : Fault) → (s ≡ true → t ≡ true) → cond s (cond t None (Some e)) None ≡ None
    back true t e h = rw (h refl) refl
    back false t e h = refl

-- the numbers of load cases
load_exactly : (rest : List ℕ) (at : ℕ) → (load_fault rest at ≡ None) ↔ Moderate (signed_at rest at)
unfolding load_fault
load_exactly rest at =
    let m = moderate_exactly (signed_at rest at) in
    (λ h. m.0 (passes _ _ h), λ h. rw (m.1 h) refl)

-- six numbers in turn
module _ (rest : List ℕ) (at : ℕ) where
  abbrev Free : ℕ → Type 0
  Free j = load_fault rest j ≡ None

  each : (k : ℕ) → k < 6 → Free at → Free (at + 4) → Free (at + 8) → Free (at + 8 + 4) → Free (at + 16) → Free (at + 16 + 4)
      → Free (at + 4 * k)
  each zero lt a b c d e f = subst Free (omega arith) a
  each (suc zero) lt a b c d e f = subst Free (omega arith) b
  each (suc (suc zero)) lt a b c d e f = subst Free (omega arith) c
  each (suc (suc (suc zero))) lt a b c d e f = subst Free (omega arith) d
  each (suc (suc (suc (suc zero)))) lt a b c d e f = subst Free (omega arith) e
  each (suc (suc (suc (suc (suc zero))))) lt a b c d e f = subst Free (omega arith) f
  each (suc (suc (suc (suc (suc (suc k)))))) lt a b c d e f = absurd (omega arith)

  forces_exactly : (forces_fault rest at ≡ None) ↔ ((k : ℕ) → k < 6 → Moderate (signed_at rest (at + 4 * k)))
  forces_exactly = (there, back)
    where
      there : forces_fault rest at ≡ None → (k : ℕ) → k < 6 → Moderate (signed_at rest (at + 4 * k))
      there h k lt =
          let three = none_of_three _ _ _ h in
          let left = neither _ _ three.0 in
          let mid = neither _ _ three.1 in
          let right = neither _ _ three.2 in
          (load_exactly rest (at + 4 * k)).0 (each k lt left.0 left.1 mid.0 mid.1 right.0 right.1)

      back : ((k : ℕ) → k < 6 → Moderate (signed_at rest (at + 4 * k))) → forces_fault rest at ≡ None
      back h =
          let free : (j k : ℕ) → k < 6 → at + 4 * k ≡ j → load_fault rest j ≡ None =
          λ j k lt e. subst Free e ((load_exactly rest (at + 4 * k)).1 (h k lt)) in
          let a = free at 0 (omega arith) (omega arith) in
          let b = free (at + 4) 1 (omega arith) (omega arith) in
          let c = free (at + 8) 2 (omega arith) (omega arith) in
          let d = free (at + 8 + 4) 3 (omega arith) (omega arith) in
          let e = free (at + 16) 4 (omega arith) (omega arith) in
          let f = free (at + 16 + 4) 5 (omega arith) (omega arith) in
          rw (a, b, c, d, e, f) refl

case_exactly : (case : LoadCase) (map : ℕ) (rest : List ℕ)
    → (case_fault case map rest ≡ None)
    ↔ (stands map (load_bit case) ≡ true → (k : ℕ) → k < 6 → Moderate (signed_at rest (offset map (load_bit case) + 4 * k)))
unfolding case_fault
case_exactly case map rest =
    let forces = forces_exactly rest (offset map (load_bit case)) in
    (λ h on. forces.0 (rw on at h), λ h. absent (stands map (load_bit case)) _ (λ on. forces.1 (h on)))
  where
    absent : (s : Bool) (a : Option Fault) → (s ≡ true → a ≡ None) → cond s a None ≡ None
    absent true a h = h refl
    absent false a h = refl

module _ (map : ℕ) (rest : List ℕ) where
  parts : values_fault least_cover map rest ≡ None
      → (section_fault least_cover map rest ≡ None) × (materials_fault least_cover map rest ≡ None)
      × (member_fault least_cover map rest ≡ None) × (loads_fault map rest ≡ None)
  parts h =
      let p = none_of_three _ _ _ h in
      let q = neither _ _ p.2 in
      (p.0, p.1, q.0, q.1)

  abbrev found : Field → Option Fault
  found f = field_fault f least_cover map rest

  each_field : values_fault least_cover map rest ≡ None → (f : Field) → found f ≡ None
  each_field h f =
      let p = parts h in
      let section = none_of_three (found Width) (found Height) (found Cover) p.0 in
      let materials = none_of_three (found Concrete) (found Steel) (found Aggregate) p.1 in
      let member = none_of_three (found Frame) (found Span) (found ShearFactor) p.2 in
      elim f as (λ x. found x ≡ None) [
        | Width ↦ section.0
        | Height ↦ section.1
        | Cover ↦ section.2
        | Concrete ↦ materials.0
        | Steel ↦ materials.1
        | Aggregate ↦ materials.2
        | Frame ↦ member.0
        | Span ↦ member.1
        | ShearFactor ↦ member.2
      ]

  each_case : values_fault least_cover map rest ≡ None → (case : LoadCase) → case_fault case map rest ≡ None
  each_case h case =
      let dead = neither (case_fault Dead map rest) _ (parts h).3 in
      let others = none_of_three (case_fault Live map rest) (case_fault Wind map rest) (case_fault Earthquake map rest) dead.1 in
      elim case as (λ x. case_fault x map rest ≡ None) [
        | Dead ↦ dead.0
        | Live ↦ others.0
        | Wind ↦ others.1
        | Earthquake ↦ others.2
      ]

  values : FieldsFine map rest → LoadsFine map rest → values_fault least_cover map rest ≡ None
  values fine loads =
      let field : (f : Field) → field_fault f least_cover map rest ≡ None = λ f. (field_exactly f map rest).1 (fine f) in
      let case : (k : LoadCase) → case_fault k map rest ≡ None = λ k. (case_exactly k map rest).1 (loads k) in
      simp (field, case)

required_exactly : (map : ℕ) → (required map ≡ true) ↔ AllByRecursion (λ bit. stands map bit ≡ true) required_bits
unfolding required
required_exactly map = (λ h. grind arith, λ h. grind arith)

-- map and length
shape_exactly : (map n : ℕ)
    → (map_fault map n ≡ None) ↔ ((unknown map ≡ false) × (required map ≡ true) × (n ≡ asked_bytes map))
unfolding map_fault
shape_exactly map n =
    (λ h. (grind (arith, nat_tests), grind (arith, nat_tests), grind (arith, nat_tests)), λ h. grind (arith, nat_tests))

-- the two bytes of the map
bytes_of_map : (n : ℕ) (e : Fault) (a : Option Fault) → cond (nat_lt n 2) (Some e) a ≡ None → (2 ≤ n) × (a ≡ None)
bytes_of_map n e a h = (grind (arith, nat_tests), grind (arith, nat_tests))

no_fault : (n : ℕ) (e : Fault) (a : Option Fault) → 2 ≤ n → a ≡ None → cond (nat_lt n 2) (Some e) a ≡ None
no_fault n e a two h = grind (arith, nat_tests)

-- a card has no fault exactly where it is well formed
faultless : (card : List ℕ) → (card_fault card ≡ None) ↔ WellFormed card
unfolding card_fault
faultless card = (there, back)
  where
    there : card_fault card ≡ None → WellFormed card
    there h =
        let p = neither (shape_fault card) (values_fault least_cover (map_of card) (rest_of card)) h in
        let two = bytes_of_map (length card) _ _ p.0 in
        let s = (shape_exactly (map_of card) (length card)).0 two.1 in
        record {
          mapped = two.0;
          known = (known_exactly (map_of card)).0 s.0;
          required = (required_exactly (map_of card)).0 s.1;
          whole = s.2;
          fields = λ f. (field_exactly f (map_of card) (rest_of card)).0 (each_field (map_of card) (rest_of card) p.1 f);
          loads = λ case. (case_exactly case (map_of card) (rest_of card)).0 (each_case (map_of card) (rest_of card) p.1 case);
        }

    back : WellFormed card → card_fault card ≡ None
    back w =
        let u = (known_exactly (map_of card)).1 w.known in
        let r = (required_exactly (map_of card)).1 w.required in
        let m = (shape_exactly (map_of card) (length card)).1 (u, r, w.whole) in
        let v = values (map_of card) (rest_of card) w.fields w.loads in
        rw (no_fault (length card) _ _ w.mapped m, v) refl

pub taken_exactly : (card : List ℕ) (r : Result Beam Fault) → CardAs card r → TakenExactly card r
taken_exactly card (Ok beam) h = (λ _. (faultless card).0 h.0, λ _. refl)
taken_exactly card (Err e) h = (λ no. cc, λ w. cc ((faultless card).1 w, h))
