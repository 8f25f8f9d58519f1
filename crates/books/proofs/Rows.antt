-- What the answer of the approved book says of its rows.
use Rattle.std.proofs.Common.{◌≡◌, ℕ, ◌+◌, ◌≤◌, ◌<◌, Bool, true, false, cond, ◌||◌, leb, List, length, get_or, take, Decides, ◌↔◌, refl, sym, subst, arith}
use Rattle.std.proofs.lemmas.Bool.{leb-true, le-leb}
use Rattle.std.proofs.lemmas.Bool.Decides.{Decides-eqb, Decides-and, Decides-like, not_from_Decides}
use Rattle.std.specs.List.{All, Any, list_any}
use Rattle.std.proofs.lemmas.List.{get_or_default}
use Rattle.std.proofs.lemmas.List.Folds.{Any-from_list_any, list_any-from_Any, list_any_more, list_any_at}
use Rattle.loads.specs.declared.actions.Actions.{Actions}
use Rattle.rebar.specs.declared.beam.Beam.{Beam}
use Rattle.rebar.specs.declared.cage.Cage.{Cage}
use Rattle.rebar.proofs.Dictionary.{same_cage_exactly}
use Rattle.books.specs.declared.approved.ApprovedRow.{ApprovedRow}
use Rattle.books.specs.Approved.{IsFor, Allows, is_for, allows, approves, approved_answer, NoneIsFor, NoneOfThemAllows, OneAllows}

pub decides_for : (row : ApprovedRow) (beam : Beam) (cage : Cage) → Decides (is_for row beam cage) (IsFor row beam cage)
unfolding is_for
decides_for row beam cage =
    let both = Decides-and _ _ (Decides-and _ _ (Decides-and _ _ (Decides-and _ _ (Decides-eqb row.width beam.section.width) (Decides-eqb row.height beam.section.height)) (Decides-eqb row.concrete beam.materials.concrete)) (Decides-eqb row.steel beam.materials.steel)) (same_cage_exactly row.cage cage _ refl) in
    Decides-like _ (λ h. (h.0.0.0.0, h.0.0.0.1, h.0.0.1, h.0.1, h.1)) (λ h. ((((h.0, h.1), h.2), h.3), h.4)) both

or_false : (b : Bool) → (b || false) ≡ b
or_false true = refl
or_false false = refl

or_true : (b : Bool) → (b || true) ≡ true
or_true true = refl
or_true false = refl

decides_le : (m n : ℕ) → Decides (leb m n) (m ≤ n)
decides_le m n = (leb-true m n, le-leb m n)

pub decides_allows : (row : ApprovedRow) (actions : Actions) → Decides (allows row actions) (Allows row actions)
unfolding allows
decides_allows row actions =
    let both = Decides-and _ _ (Decides-and _ _ (decides_le actions.bottom row.bottom) (decides_le actions.top row.top)) (decides_le actions.shear row.shear) in
    Decides-like _ (λ h. (h.0.0, h.0.1, h.1)) (λ h. ((h.0, h.1), h.2)) both

-- a test of each element, and the test whether one of a list passes it
decides_any : {X : Type 0} (p : X → Bool) (P : X → Type 0) → ((x : X) → Decides (p x) (P x)) → (xs : List X) → Decides (list_any p xs) (Any P xs)
decides_any p P each xs =
    (λ t. let h = Any-from_list_any p xs t in (h.0, h.1, h.2, h.3, (each h.1).0 h.4), λ h. list_any-from_Any p xs (h.0, h.1, h.2, h.3, (each h.1).1 h.4))

none_from_all : {X : Type 0} (P : X → Type 0) (xs : List X) → All (λ x. ¬ P x) xs → ¬ Any P xs
none_from_all P xs all h = all h.0 h.1 h.2 (subst P (sym h.3) h.4)

all_from_none : {X : Type 0} (P : X → Type 0) (xs : List X) → ¬ Any P xs → All (λ x. ¬ P x) xs
all_from_none P xs none k d below p = none (k, get_or xs k d, below, get_or_default xs k (get_or xs k d) d below, p)

-- what an answer says of the rows
pub record Told (rows : List ApprovedRow) (beam : Beam) (cage : Cage) (r : ℕ) : Type 0 where
  pub unknown : (r ≡ 60) ↔ NoneIsFor rows beam cage
  pub refused : (r ≡ 61) ↔ NoneOfThemAllows rows beam cage
  pub passes : (r ≡ 0) ↔ OneAllows rows beam cage

told_by : (rows : List ApprovedRow) (beam : Beam) (cage : Cage) (one some : Bool) → Decides one (OneAllows rows beam cage)
    → Decides some (Any (λ row. IsFor row beam cage) rows) → Told rows beam cage (cond one 0 (cond some 61 60))
told_by rows beam cage true some o s =
    let h = o.0 refl in
    let known : Any (λ row. IsFor row beam cage) rows = (h.0, h.1, h.2, h.3, h.4.0) in
    record {
      unknown = (λ e. absurd (omega (arith, e)), λ none. absurd (none_from_all _ rows none known));
      refused = (λ e. absurd (omega (arith, e)), λ refused. absurd (none_from_all _ rows (λ k d below p. refused.1 k d below p.0 p.1) h));
      passes = (λ e. h, λ one. refl);
    }
told_by rows beam cage false true o s =
    let none : ¬ OneAllows rows beam cage = not_from_Decides false o refl in
    record {
      unknown = (λ e. absurd (omega (arith, e)), λ all. absurd (none_from_all _ rows all (s.0 refl)));
      refused = (λ e. (s.0 refl, λ k d below p q. all_from_none _ rows none k d below (p, q)), λ refused. refl);
      passes = (λ e. absurd (omega (arith, e)), λ one. absurd (none one));
    }
told_by rows beam cage false false o s =
    let none : ¬ Any (λ row. IsFor row beam cage) rows = not_from_Decides false s refl in
    record {
      unknown = (λ e. all_from_none _ rows none, λ all. refl);
      refused = (λ e. absurd (omega (arith, e)), λ refused. absurd (none refused.0));
      passes = (λ e. absurd (omega (arith, e)), λ one. absurd (none (one.0, one.1, one.2, one.3, one.4.0)));
    }

pub told : (rows : List ApprovedRow) (beam : Beam) (cage : Cage) (r : ℕ) → r ≡ approved_answer rows beam cage → Told rows beam cage r
unfolding approved_answer
told rows beam cage r e =
    subst (λ (x : ℕ). Told rows beam cage x) (sym e)
    (told_by rows beam cage _ _
    (decides_any (approves beam cage) _ (λ row. Decides-and _ _ (decides_for row beam cage) (decides_allows row beam.actions)) rows)
    (decides_any (λ row. is_for row beam cage) _ (λ row. decides_for row beam cage) rows))

-- what a walk over some rows has seen when none of them approved the cage: whether one is for it
pub record Seen (rows : List ApprovedRow) (beam : Beam) (cage : Cage) (known : Bool) : Type 0 where
  pub is_for_them : known ≡ list_any (λ row. is_for row beam cage) rows
  pub none_approves : list_any (approves beam cage) rows ≡ false

test_false : {P : Type 0} (r : Bool) → Decides r P → ¬ P → r ≡ false
test_false true d = λ no. absurd (no (d.0 refl))
test_false false d = λ no. refl

-- a row that stands at this place
pub record At (rows : List ApprovedRow) (i : ℕ) (row : ApprovedRow) : Type 0 where
  pub below : i < length rows
  pub is : row ≡ get_or rows i row

more : (rows : List ApprovedRow) (i : ℕ) (row : ApprovedRow) (beam : Beam) (cage : Cage) (known now : Bool) → At rows i row
    → is_for row beam cage ≡ now → approves beam cage row ≡ false → Seen (take i rows) beam cage known → Seen (take (i + 1) rows) beam cage (known || now)
more rows i row beam cage known now at f a seen =
    let m = list_any_more (λ r. is_for r beam cage) rows i row at.below in
    let n = list_any_more (approves beam cage) rows i row at.below in
    let g = subst (λ r. is_for r beam cage ≡ now) at.is f in
    let h = subst (λ r. approves beam cage r ≡ false) at.is a in
    record {
      is_for_them = rw (m, g, seen.is_for_them);
      none_approves = rw (n, h, seen.none_approves);
    }

pub passed_over : (rows : List ApprovedRow) (i : ℕ) (row : ApprovedRow) (beam : Beam) (cage : Cage) (known : Bool) → At rows i row
    → ¬ IsFor row beam cage → Seen (take i rows) beam cage known → Seen (take (i + 1) rows) beam cage known
passed_over rows i row beam cage known at differs seen =
    let f = test_false (is_for row beam cage) (decides_for row beam cage) differs in
    let a : approves beam cage row ≡ false = rw f in
    subst (Seen (take (i + 1) rows) beam cage) (or_false known) (more rows i row beam cage known false at f a seen)

pub refused : (rows : List ApprovedRow) (i : ℕ) (row : ApprovedRow) (beam : Beam) (cage : Cage) (known : Bool) → At rows i row
    → IsFor row beam cage → ¬ Allows row beam.actions → Seen (take i rows) beam cage known → Seen (take (i + 1) rows) beam cage true
refused rows i row beam cage known at same exceeds seen =
    let f = (decides_for row beam cage).1 same in
    let t = test_false (allows row beam.actions) (decides_allows row beam.actions) exceeds in
    let a : approves beam cage row ≡ false = rw (f, t) in
    subst (Seen (take (i + 1) rows) beam cage) (or_true known) (more rows i row beam cage known true at f a seen)

pub found : (rows : List ApprovedRow) (i : ℕ) (row : ApprovedRow) (beam : Beam) (cage : Cage) → At rows i row
    → IsFor row beam cage → Allows row beam.actions → 0 ≡ approved_answer rows beam cage
unfolding approved_answer
found rows i row beam cage at same allowed =
    let f = (decides_for row beam cage).1 same in
    let t = (decides_allows row beam.actions).1 allowed in
    let a : approves beam cage row ≡ true = rw (f, t) in
    let m = list_any_at (approves beam cage) rows i row at.below (subst (λ r. approves beam cage r ≡ true) at.is a) in
    rw m

pub ended : (rows : List ApprovedRow) (beam : Beam) (cage : Cage) (known : Bool) → Seen rows beam cage known → cond known 61 60 ≡ approved_answer rows beam cage
unfolding approved_answer
ended rows beam cage known seen = rw (seen.is_for_them, seen.none_approves)
