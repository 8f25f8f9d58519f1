-- Articles as inequalities between numbers, and the first of a list that does not hold.
use Rattle.std.specs.Prelude.{◌≡◌, ◌≢◌, ◌⊎◌, ℕ, ◌<◌, ◌≤◌, Bool, cond, ◌&&◌, ◌||◌, ◌==◌}
use Rattle.std.specs.Prelude.{nat_le, nat_lt, List, [], ◌∷◌, Option, Some, None, Result, Ok, Err}
use Rattle.books.specs.declared.article.Broken.{Broken}

infix 4 ◌≼◌ ◌≺◌
infixr 3 ◌and◌
infixr 2 ◌or◌
-- what an article asks: one inequality, or several joined
pub data Rule : Type 0 where
  ◌≼◌ : ℕ → ℕ → Rule
  ◌≺◌ : ℕ → ℕ → Rule
  ◌and◌ : Rule → Rule → Rule
  ◌or◌ : Rule → Rule → Rule

-- what a rule means
abbrev pub Holds : Rule → Type 0
Holds (a ≼ b) = a ≤ b
Holds (a ≺ b) = a < b
Holds (p and q) = Holds p × Holds q
Holds (p or q) = Holds p ⊎ Holds q

-- a rule, computed
abbrev pub test : Rule → Bool
test (a ≼ b) = nat_le a b
test (a ≺ b) = nat_lt a b
test (p and q) = test p && test q
test (p or q) = test p || test q

-- a rule with its number
pub record Article : Type 0 where
  pub number : ℕ
  pub rule : Rule

-- the article of this number and rule
abbrev pub article : ℕ → Rule → Article
article n r = record { number = n; rule = r }

-- the number of the first article that does not hold, 0 where all hold
abbrev pub first_broken : List Article → ℕ
first_broken [] = 0
first_broken (a ∷ rest) = cond (test a.rule) (first_broken rest) a.number

-- what comes of asking articles in their order: 0 where all hold, else the number of the first
-- that does not
abbrev pub answer_of : Result (Unit {0}) Broken → ℕ
answer_of (Ok all) = 0
answer_of (Err broken) = broken.article

-- an answer where it is a refusal
abbrev pub if_refused : ℕ → Option ℕ
if_refused n = cond (n == 0) None (Some n)

-- the lower book's answer where that is not 0, else the layer's own
abbrev pub over : ℕ → ℕ → ℕ
over lower own = cond (lower == 0) own lower

-- every article of a list holds
abbrev pub EveryHolds : List Article → Type 0
EveryHolds [] = Unit {0}
EveryHolds (a ∷ rest) = Holds a.rule × EveryHolds rest

-- n is the number of an article that does not hold, while all before it hold
abbrev pub FirstBroken : List Article → ℕ → Type 0
FirstBroken [] n = ⊥
FirstBroken (a ∷ rest) n =
    ((n ≡ a.number) × (Holds a.rule → ⊥)) ⊎ (Holds a.rule × FirstBroken rest n)

-- an answer is 0 exactly when every article holds
abbrev pub PassesExactly : List Article → ℕ → Type 0
PassesExactly articles r = (r ≡ 0 → EveryHolds articles) × (EveryHolds articles → r ≡ 0)

-- any other answer is the number of the first broken article, and no other number is
abbrev pub RefusesExactly : List Article → ℕ → Type 0
RefusesExactly articles r =
    (r ≢ 0 → FirstBroken articles r) × ((k : ℕ) → FirstBroken articles k → r ≡ k)
