-- A rule's test tells whether the rule holds, and so the first broken article of a list is what its name says.
use Rattle.std.proofs.Common.{◌≡◌, ◌≢◌, ℕ, ◌<◌, Bool, true, false, ◌&&◌, ltb, cond, ◌⊎◌, List, [], ◌∷◌, ◌++◌, Decides, sym, refl, subst, inl, inr, ⊎_elim, arith}
use Rattle.std.proofs.lemmas.Bool.{leb-true, le-leb, ltb-true, and_parts, cases_Bool}
use Rattle.std.proofs.lemmas.Bool.Decides.{Decides-ltb, Decides-and, Decides-or, not_from_Decides, nat_tests}
use Rattle.books.specs.Rules.{Rule, ◌≼◌, ◌≺◌, ◌and◌, ◌or◌, Holds, test, Article, first_broken, over, PassesExactly, RefusesExactly}

decides : (r : Rule) → Decides (test r) (Holds r)
decides (a ≼ b) = (leb-true a b, le-leb a b)
decides (a ≺ b) = Decides-ltb a b
decides (p and q) = Decides-and (test p) (test q) (decides p) (decides q)
decides (p or q) = Decides-or (test p) (test q) (decides p) (decides q)

-- a rule passes its test and holds, or neither
abbrev Judged : Rule → Type 0
Judged r = ((test r ≡ true) × Holds r) ⊎ ((test r ≡ false) × (Holds r → ⊥))

judged : (r : Rule) → Judged r
judged r = ⊎_elim (λ t. inl (t, (decides r).0 t)) (λ f. inr (f, not_from_Decides (test r) (decides r) f)) (cases_Bool (test r))

-- no article has the number 0
abbrev pub numbered : List Article → Bool
numbered [] = true
numbered (a ∷ rest) = ltb 0 a.number && numbered rest

-- an answer passes where every article of a list holds, and else names the first broken one
abbrev pub Tells : List Article → ℕ → Type 0
Tells l r = PassesExactly l r × RefusesExactly l r

first_broken-Tells : (l : List Article) → numbered l ≡ true → Tells l (first_broken l)
first_broken-Tells [] n = ((λ z. tt, λ h. refl), (λ ne. absurd (ne refl), λ k b. absurd b))
first_broken-Tells (a ∷ rest) n =
    let p = and_parts (ltb 0 a.number) (numbered rest) n in go (ltb-true 0 a.number p.0) (first_broken-Tells rest p.1) (judged a.rule)
  where
    go : 0 < a.number → Tells rest (first_broken rest) → Judged a.rule → Tells (a ∷ rest) (first_broken (a ∷ rest))
    go some t (inl h) = rw h.0 (
      (λ z. (h.1, t.0.0 z), λ every. t.0.1 every.1),
      (λ ne. inr (h.1, t.1.0 ne), λ k. ⊎_elim (λ b. absurd (b.1 h.1)) (λ b. t.1.1 k b.1)),
    )
    go some t (inr h) = rw h.0 (
      (λ z. absurd (omega (arith, some, z)), λ every. absurd (h.1 every.0)),
      (λ ne. inl (refl, h.1), λ k. ⊎_elim (λ b. sym b.0) (λ b. absurd (h.1 b.0))),
    )

-- what an answer says of the list that it is the answer of
pub tells : (l : List Article) (r : ℕ) → numbered l ≡ true → r ≡ first_broken l → Tells l r
tells l r n e = subst (λ (x : ℕ). Tells l x) (sym e) (first_broken-Tells l n)

-- an article before the first of two lists changes nothing in how the second stands over it
over_later : (t : Bool) (n x y own : ℕ) → ltb 0 n ≡ true → x ≡ over y own → cond t x n ≡ over (cond t y n) own
over_later t n x y own some e = grind (arith, nat_tests)

-- one list after the other: the second answers where the first passes
pub joined : (l r : List Article) → numbered l ≡ true → first_broken (l ++ r) ≡ over (first_broken l) (first_broken r)
joined [] r n = refl
joined (a ∷ rest) r n =
    let p = and_parts (ltb 0 a.number) (numbered rest) n in over_later (test a.rule) a.number _ _ _ p.0 (joined rest r p.1)

-- how a layer answers: the lower answer comes first, and where it passes the layer's own
pub own_answer : (lower own r : ℕ) → 0 ≡ lower → r ≡ own → r ≡ over lower own
own_answer lower own r z e = grind (arith, nat_tests)

pub lower_answer : (lower own r : ℕ) → r ≡ lower → r ≢ 0 → r ≡ over lower own
lower_answer lower own r e ne = grind (arith, nat_tests)

pub when_own : (lower own r : ℕ) → r ≡ over lower own → lower ≡ 0 → r ≡ own
when_own lower own r e z = grind (arith, nat_tests)

pub when_lower : (lower own r : ℕ) → r ≡ over lower own → lower ≢ 0 → r ≡ lower
when_lower lower own r e ne = grind (arith, nat_tests)

-- what such an answer says of the layer's own articles
pub record TellsOver (lower : ℕ) (own : List Article) (r : ℕ) : Type 0 where
  pub lower_first : lower ≢ 0 → r ≡ lower
  pub passes : lower ≡ 0 → PassesExactly own r
  pub refuses : lower ≡ 0 → RefusesExactly own r

pub tells_over : (lower : ℕ) (own : List Article) (r : ℕ) → numbered own ≡ true → r ≡ over lower (first_broken own) → TellsOver lower own r
tells_over lower own r n e =
    let t : lower ≡ 0 → Tells own r = λ z. tells own r n (when_own lower _ r e z) in
    record { lower_first = when_lower lower _ r e; passes = λ z. (t z).0; refuses = λ z. (t z).1 }
