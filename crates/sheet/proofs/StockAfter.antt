-- What a stock has after a mark of it is set, and which cages it then has.
use Rattle.std.proofs.Common.{◌≡◌, ◌≢◌, ℕ, ◌-◌, ◌<◌, ◌≤◌, Bool, true, false, cond, ◌&&◌, T, List, [], ◌∷◌, length, nat_le, ◌==◌, slice_index_or, slice_set, refl, sym, ap, ◌∙◌, subst, arith, ⊎_elim, get_or-set_same, get_or-set_other, eq-eqb, ne_eqb, eqb-true}
use Rattle.std.specs.Bool.{beq}
use Rattle.std.specs.List.{list_any}
use Rattle.std.proofs.lemmas.Bool.{cases_eq, and_parts, and_left, and_right, or_parts, false≢true, leb-true}
use Rattle.rebar.specs.declared.cage.Cage.{Cage}
use Rattle.stock.specs.declared.kind.Kind.{Kind}
use Rattle.stock.specs.declared.kind.Kind.TheVariants.{Main, Tie}
use Rattle.stock.specs.declared.stock.Stock.{Stock}
use Rattle.stock.specs.Kinds.{kind_number, known}
use Rattle.stock.specs.Stock.{has, with_mark, some_in, offers_cages}
use Rattle.search.specs.Lightest.{FromStock}
use Rattle.sheet.specs.History.{marks}
use Rattle.sheet.specs.Places.{uses}

-- the order sets this mark of this kind
abbrev pub sets : Kind → ℕ → Kind → ℕ → Bool
sets k m j n = kind_number k == kind_number j && (m == n && known j n)

-- one mark of a row is set
mark_set : (xs : List Bool) (m : ℕ) (b : Bool) (n : ℕ) → 3 ≤ m → m - 3 < length xs → 3 ≤ n
    → slice_index_or (slice_set xs (m - 3) b) (n - 3) false ≡ cond (m == n) b (slice_index_or xs (n - 3) false)
mark_set xs m b n l h k =
    ⊎_elim
    (λ (e : m ≡ n). rw (eq-eqb m n e, ← e) (get_or-set_same xs (m - 3) b false h))
    (λ (d : m ≢ n). let o : n - 3 ≢ m - 3 = omega (arith, d) in rw (ne_eqb m n d) (get_or-set_other xs (m - 3) (n - 3) b false o))
    (cases_eq m n)

-- a row after one mark is set, where `fine` says which marks are known
row_set : (fine : ℕ → Bool) (xs : List Bool) (m : ℕ) (b : Bool) (n : ℕ) → fine m ≡ true
    → ((j : ℕ) → fine j ≡ true → (3 ≤ j) × (j - 3 < length xs))
    → (fine n && slice_index_or (slice_set xs (m - 3) b) (n - 3) false) ≡ cond (m == n && fine n) b (fine n && slice_index_or xs (n - 3) false)
row_set fine xs m b n f place = go (fine n) refl
  where
    go : (t : Bool) → fine n ≡ t
        → (t && slice_index_or (slice_set xs (m - 3) b) (n - 3) false) ≡ cond (m == n && t) b (t && slice_index_or xs (n - 3) false)
    go true e = rw (and_true (m == n)) (mark_set xs m b n (place m f).0 (place m f).1 (place n e).0)
      where
        and_true : (x : Bool) → (x && true) ≡ x
        and_true true = refl
        and_true false = refl
    go false e = rw (and_right (m == n) false refl) refl

main_place : (xs : List Bool) → length xs ≡ 9 → (j : ℕ) → known Main j ≡ true → (3 ≤ j) × (j - 3 < length xs)
main_place xs l j e =
    let p = and_parts (nat_le 3 j) (nat_le j 11) e in
    let low = leb-true 3 j p.0 in let high = leb-true j 11 p.1 in (low, omega (arith, low, high, l))

tie_place : (xs : List Bool) → length xs ≡ 3 → (j : ℕ) → known Tie j ≡ true → (3 ≤ j) × (j - 3 < length xs)
tie_place xs l j e =
    let p = and_parts (nat_le 3 j) (nat_le j 5) e in
    let low = leb-true 3 j p.0 in let high = leb-true j 5 p.1 in (low, omega (arith, low, high, l))

-- what the stock has, one mark set
pub has_set : (s : Stock) → length s.main ≡ 9 → length s.tie ≡ 3 → (k : Kind) (m : ℕ) (b : Bool) → known k m ≡ true
    → (j : Kind) (n : ℕ) → has (with_mark s k m b) j n ≡ cond (sets k m j n) b (has s j n)
unfolding has
has_set s l l' Main m b e Main n = row_set (known Main) s.main m b n e (main_place s.main l)
has_set s l l' Main m b e Tie n = refl
has_set s l l' Tie m b e Main n = refl
has_set s l l' Tie m b e Tie n = row_set (known Tie) s.tie m b n e (tie_place s.tie l')

same_beq : (x y : Bool) → beq x y ≡ true → x ≡ y
same_beq true true e = refl
same_beq true false e = sym e
same_beq false true e = e
same_beq false false e = refl

same_kind : (k j : Kind) → (kind_number k == kind_number j) ≡ true → k ≡ j
same_kind Main Main e = refl
same_kind Main Tie e = absurd (false≢true e)
same_kind Tie Main e = absurd (false≢true e)
same_kind Tie Tie e = refl

-- a mark that is set as it was
pub has_same : (s : Stock) (k : Kind) (m : ℕ) (b : Bool) → beq (has s k m) b ≡ true
    → (j : Kind) (n : ℕ) → has s j n ≡ cond (sets k m j n) b (has s j n)
has_same s k m b e j n = go (sets k m j n) refl
  where
    go : (t : Bool) → sets k m j n ≡ t → has s j n ≡ cond t b (has s j n)
    go true h =
        let p = and_parts (kind_number k == kind_number j) (m == n && known j n) h in
        let q = and_parts (m == n) (known j n) p.1 in
        rw (← same_kind k j p.0, ← eqb-true m n q.0) (same_beq (has s k m) b e)
    go false h = refl

-- some mark of a row of nine, or of three, is in
nine : (xs ys : List Bool) → length xs ≡ 9 → some_in xs ≡ list_any (has (record { main = xs; tie = ys }) Main) marks
unfolding has
nine (a ∷ b ∷ c ∷ d ∷ e ∷ f ∷ g ∷ h ∷ i ∷ []) ys l = refl
nine xs ys l = absurd (omega (arith, l))

three : (xs ys : List Bool) → length ys ≡ 3 → some_in ys ≡ list_any (has (record { main = xs; tie = ys }) Tie) marks
unfolding has
three xs (a ∷ b ∷ c ∷ []) l = refl
three xs ys l = absurd (omega (arith, l))

pub offered : (s : Stock) → length s.main ≡ 9 → length s.tie ≡ 3
    → offers_cages s ≡ (list_any (has s Main) marks && list_any (has s Tie) marks)
offered s l l' = rw (nine s.main s.tie l, three s.main s.tie l') refl

-- a mark that goes out: there are no more cages, and those that do not use it stay
module _ (got got' : Kind → ℕ → Bool) (k : Kind) (m : ℕ) (less : (j : Kind) (n : ℕ) → got' j n ≡ cond (sets k m j n) false (got j n)) where
  fewer : (j : Kind) (n : ℕ) → T (got' j n) → T (got j n)
  fewer j n h = go (sets k m j n) (subst T (less j n) h)
    where
      go : (t : Bool) → T (cond t false (got j n)) → T (got j n)
      go true e = absurd e
      go false e = e

  pub no_more : (c : Cage) → FromStock got' c → FromStock got c
  no_more c h = (fewer Main c.bottom.mark h.0, fewer Main c.top.mark h.1, fewer Tie c.ties.mark h.2)

  other : (j : Kind) (n : ℕ) → sets k m j n ≡ false → T (got j n) → T (got' j n)
  other j n e h = subst T (sym (less j n ∙ ap (λ t. cond t false (got j n)) e)) h

  other_mark : (j : Kind) (n : ℕ) → (n == m) ≡ false → T (got j n) → T (got' j n)
  other_mark j n e = other j n (and_right (kind_number k == kind_number j) _ (and_left (m == n) _ (turned n m e)))
    where
      turned : (x y : ℕ) → (x == y) ≡ false → (y == x) ≡ false
      turned x y h = ne_eqb y x (λ d. false≢true (sym h ∙ eq-eqb x y (sym d)))

pub stay : (got got' : Kind → ℕ → Bool) (k : Kind) (m : ℕ) → ((j : Kind) (n : ℕ) → got' j n ≡ cond (sets k m j n) false (got j n))
    → (c : Cage) → uses k m c ≡ false → FromStock got c → FromStock got' c
stay got got' Main m less c u h =
    let o = or_parts (c.bottom.mark == m) (c.top.mark == m) u in (
      other_mark got got' Main m less Main c.bottom.mark o.0 h.0,
      other_mark got got' Main m less Main c.top.mark o.1 h.1,
      other got got' Main m less Tie c.ties.mark refl h.2,
    )
stay got got' Tie m less c u h = (
  other got got' Tie m less Main c.bottom.mark refl h.0,
  other got got' Tie m less Main c.top.mark refl h.1,
  other_mark got got' Tie m less Tie c.ties.mark u h.2,
)
