-- The fault of a value is that of the first number out of range.
use Rattle.std.proofs.Common.{◌≡◌, ℕ, ◌+◌, Bool, true, false, cond, ◌⊎◌, List, [], ◌∷◌, ◌++◌, Some, None, Ok, Err, Option, Result, refl, ap, ◌∙◌, subst, inl, inr}
use Rattle.rebar.specs.declared.beam.Beam.{Beam}
use Rattle.card.specs.declared.fault.Fault.{Fault}
use Rattle.card.specs.declared.fault.FaultKind.TheVariants.{OutOfRange}
use Rattle.card.specs.declared.layout.Field.{Field}
use Rattle.loads.specs.declared.loads.LoadCase.{LoadCase}
use Rattle.card.specs.Card.{shape_fault, card_fault, map_of, rest_of, CardAs}
use Rattle.card.specs.Faults.{fault, first}
use Rattle.card.specs.Layout.{layout, load_bit, least_cover}
use Rattle.card.specs.Map.{stands, offset}
use Rattle.card.specs.Numbers.{field_fault, number_fault, load_fault}
use Rattle.card.specs.Order.{Number, AllFine, FirstBad, Judges, numbers, of_field, of_case, load_at, force_at, forces_at}
use Rattle.card.specs.Parts.{case_fault, forces_fault, force_fault, values_fault}

-- the fault of the first number of a list that is out of range
abbrev fault_of : List Number → Option Fault
fault_of [] = None
fault_of (n ∷ ns) = cond n.fine (fault_of ns) (Some (fault OutOfRange n.place))

-- one more number, before some others and others after them
one_more : (t : Bool) (a b c : Option Fault) (e : Fault) → b ≡ first a c → cond t b (Some e) ≡ first (cond t a (Some e)) c
one_more true a b c e h = h
one_more false a b c e h = refl

fault_of-append : (xs ys : List Number) → fault_of (xs ++ ys) ≡ first (fault_of xs) (fault_of ys)
fault_of-append [] ys = refl
fault_of-append (x ∷ xs) ys = one_more x.fine _ _ _ _ (fault_of-append xs ys)

fault_of-three : (xs ys zs : List Number) → fault_of (xs ++ (ys ++ zs)) ≡ first (fault_of xs) (first (fault_of ys) (fault_of zs))
fault_of-three xs ys zs = simp fault_of-append

-- what stands only where a bit is set
standing : (t : Bool) (ns : List Number) (a : Option Fault) → fault_of ns ≡ a → fault_of (cond t ns []) ≡ cond t a None
standing true ns a e = e
standing false ns a e = refl

field : (f : Field) (least map : ℕ) (rest : List ℕ) → fault_of (of_field f least map rest) ≡ field_fault f least map rest
unfolding of_field field_fault number_fault
field f least map rest = standing (stands map (layout f).bit) _ _ refl

force : (rest : List ℕ) (at : ℕ) → fault_of (force_at rest at) ≡ force_fault rest at
unfolding load_fault
force rest at = fault_of-append (load_at rest at ∷ []) (load_at rest (at + 4) ∷ [])

forces : (rest : List ℕ) (at : ℕ) → fault_of (forces_at rest at) ≡ forces_fault rest at
forces rest at =
    fault_of-three (force_at rest at) (force_at rest (at + 8)) (force_at rest (at + 16))
    ∙ cc (force rest at, force rest (at + 8), force rest (at + 16))

case : (k : LoadCase) (map : ℕ) (rest : List ℕ) → fault_of (of_case k map rest) ≡ case_fault k map rest
unfolding of_case case_fault
case k map rest = standing (stands map (load_bit k)) _ _ (forces rest (offset map (load_bit k)))

-- all numbers of a card
all : (least map : ℕ) (rest : List ℕ) → fault_of (numbers least map rest) ≡ values_fault least map rest
all least map rest = simp (fault_of-append, field, case)

-- a list of numbers without fault, or with this first one
abbrev Found : List Number → Option Fault → Type 0
Found ns None = AllFine ns
Found ns (Some e) = FirstBad ns e

-- one more number, at the front
grown : (n : Number) (ns : List Number) (t : Bool) (a : Option Fault) → n.fine ≡ t → Found ns a
    → Found (n ∷ ns) (cond t a (Some (fault OutOfRange n.place)))
grown n ns true None fine p = (fine, p)
grown n ns true (Some e) fine p =
    record {
      before = n ∷ p.before;
      bad = p.bad;
      after = p.after;
      split = ap (λ l. n ∷ l) p.split;
      earlier = (fine, p.earlier);
      wrong = p.wrong;
      named = p.named;
    }
grown n ns false a wrong p = record { before = []; bad = n; after = ns; split = refl; earlier = tt; wrong = wrong; named = refl }

found : (ns : List Number) → Found ns (fault_of ns)
found [] = tt
found (n ∷ ns) = grown n ns n.fine (fault_of ns) refl (found ns)

first_found : (least map : ℕ) (rest : List ℕ) (a : Option Fault) → values_fault least map rest ≡ a → Found (numbers least map rest) a
first_found least map rest a e =
    subst (λ (x : Option Fault). Found (numbers least map rest) x) (all least map rest ∙ e) (found (numbers least map rest))

first_is : (a b c : Option Fault) → first a b ≡ c → ((a ≡ None) × (b ≡ c)) ⊎ (a ≡ c)
first_is None b c e = inl (refl, e)
first_is (Some x) b c e = inr e

first_none : (a b : Option Fault) → first a b ≡ None → b ≡ None
first_none None b e = e
first_none (Some x) b e = cc

pub judges : (card : List ℕ) (r : Result Beam Fault) → CardAs card r → Judges card r
unfolding card_fault
judges card (Ok beam) h = first_found _ _ _ None (first_none (shape_fault card) _ h.0)
judges card (Err e) h =
    elim (first_is (shape_fault card) (values_fault least_cover (map_of card) (rest_of card)) (Some e) h) [
      | inl p ↦ inr (first_found _ _ _ (Some e) p.1)
      | inr p ↦ inl p
    ]
