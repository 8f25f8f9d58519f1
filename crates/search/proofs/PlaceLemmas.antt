-- Bars and ties are known by their place in the list of all.
use Rattle.std.proofs.Common.{◌≡◌, ℕ, ◌+◌, ◌-◌, ◌*◌, ◌/◌, ◌<◌, ◌≤◌, List, get_or, take, drop, sym, ap, subst, ◌∙◌, arith}
use Rattle.std.proofs.lemmas.List.{get_or-take, get_or-drop}
use Rattle.std.specs.List.{AllWithin}
use Rattle.rebar.specs.declared.beam.Beam.{Beam}
use Rattle.rebar.specs.declared.cage.Bars.{Bars}
use Rattle.rebar.specs.declared.cage.Ties.{Ties}
use Rattle.rebar.specs.declared.cage.Cage.{Cage}
use Rattle.rebar.specs.Steel.{bars_steel, ties_steel, steel}
use Rattle.rebar.proofs.Same.{same_bars, same_ties}
use Rattle.rebar.proofs.Spacings.{lighter_ties}
use Rattle.search.specs.declared.places.TheConstants.{BARS, TIE_MARKS, SPACINGS, TIES}
use Rattle.search.specs.declared.places.WeighedBars.{WeighedBars}
use Rattle.search.specs.declared.places.WeighedTies.{WeighedTies}
use Rattle.search.specs.Search.{IsByPlace, bars_place, mark_place, spacing_place, ties_place}

-- the bars at a place are the only ones, and so are the ties
same_bars_place : (a b : Bars) → bars_place a ≡ bars_place b → a ≡ b
same_bars_place a b e = same_bars a b (omega arith) (omega arith)

pub same_ties_place : (a b : Ties) → ties_place a ≡ ties_place b → a ≡ b
same_ties_place a b e =
    let m : a.mark ≡ b.mark = omega arith in
    let q : (600 - a.spacing) / 25 ≡ (600 - b.spacing) / 25 = omega arith in
    same_ties a b m (omega (arith, a.spaced.1, b.spaced.1))

-- a list of weighed parts by place
module _ {Part Weighed : Type 0} (part : Weighed → Part) (place : Part → ℕ) (n : ℕ)
    (same : (a b : Part) → place a ≡ place b → a ≡ b) (xs : List Weighed) (all : IsByPlace (λ x. place (part x)) xs n) where
  -- has at each place the only part with that place
  listed : (k : ℕ) (x : Weighed) → k < n → (a : Part) → place a ≡ k → a ≡ part (get_or xs k x)
  listed k x lt a e = same a (part (get_or xs k x)) (e ∙ sym (all k x lt))

module _ (bars : List WeighedBars) (all : IsByPlace (λ b. bars_place b.bars) bars BARS) where
  pub bars_here : (k : ℕ) (t : WeighedBars) → k < BARS → (b : Bars) → bars_place b ≡ k → b ≡ (get_or bars k t).bars
  bars_here = listed (λ b. b.bars) bars_place BARS same_bars_place bars all

-- ties at the same place of a mark have the same mark
pub same_mark : (a b : Ties) → mark_place a ≡ mark_place b → a.mark ≡ b.mark
same_mark a b e = omega arith

-- of one mark those at a later place have no less steel
pub later_heavier : (beam : Beam) (a b : Ties) → mark_place a ≡ mark_place b → spacing_place a ≤ spacing_place b → ties_steel beam a ≤ ties_steel beam b
later_heavier beam a b e le = lighter_ties beam b a (sym (same_mark a b e)) (omega (arith, a.spaced.1, b.spaced.1))

-- an item of a part of a list is an item of the list
in_part : {X : Type 0} (xs : List X) (a n i : ℕ) (x : X) → i < n → x ≡ get_or (take n (drop a xs)) i x → x ≡ get_or xs (a + i) x
in_part xs a n i x lt is = is ∙ get_or-take n (drop a xs) i x lt ∙ get_or-drop a xs i x

-- what stands in the list of all ties, in the part of a mark
module _ (ties : List WeighedTies) (all : IsByPlace (λ t. ties_place t.ties) ties TIES) (beam : Beam)
    (weighed : AllWithin (λ t. t.steel ≡ ties_steel beam t.ties) ties 0 TIES) where
  pub of_mark : (mark i n : ℕ) (t : WeighedTies) → mark < TIE_MARKS → i < SPACINGS → n ≡ SPACINGS
      → t ≡ get_or (take n (drop (SPACINGS * mark) ties)) i t
      → (mark_place t.ties ≡ mark) × (spacing_place t.ties ≡ i) × (t.steel ≡ ties_steel beam t.ties)
  of_mark mark i n t m lt e is =
      let here : t ≡ get_or ties (SPACINGS * mark + i) t = in_part ties (SPACINGS * mark) n i t (omega (arith, e)) is in
      let place : ties_place t.ties ≡ SPACINGS * mark + i = ap (λ x. ties_place x.ties) here ∙ all (SPACINGS * mark + i) t (omega arith) in
      let steel : t.steel ≡ ties_steel beam t.ties =
      subst (λ x. x.steel ≡ ties_steel beam x.ties) (sym here) (weighed (SPACINGS * mark + i) t (omega arith) (omega arith)) in
      (omega (arith, place), omega (arith, place), steel)

-- the steel of a cage with these bars
pub with_bars : (beam : Beam) (d : Cage) (bottom top : WeighedBars)
    → (bottom.steel ≡ bars_steel beam bottom.bars) × (top.steel ≡ bars_steel beam top.bars)
    → d.bottom ≡ bottom.bars → d.top ≡ top.bars → steel beam d ≡ bottom.steel + top.steel + ties_steel beam d.ties
with_bars beam d bottom top weighed b t =
    let e : bars_steel beam d.bottom ≡ bottom.steel = ap (bars_steel beam) b ∙ sym weighed.0 in
    let f : bars_steel beam d.top ≡ top.steel = ap (bars_steel beam) t ∙ sym weighed.1 in
    omega (arith, e, f)
