-- The yard layer: articles 41 to 43, made with a most bars of a face, a least spacing and a flag.
use Rattle.std.specs.Prelude.{ℕ, List, [], ◌∷◌}
use Rattle.rebar.specs.declared.cage.Ties.{Ties}
use Rattle.rebar.specs.declared.cage.Cage.{Cage}
use Rattle.books.specs.Rules.{Rule, ◌≼◌, ◌and◌, ◌or◌, Article, article, first_broken}

-- 41: neither face has more bars
abbrev pub few_bars : ℕ → Cage → Rule
few_bars most c = c.bottom.number ≼ most and c.top.number ≼ most

-- 42: the spacing is not smaller
abbrev pub wide_spacing : ℕ → Ties → Rule
wide_spacing least t = least ≼ t.spacing

-- 43: the main marks are equal, where the flag is not 0
abbrev pub one_mark : ℕ → Cage → Rule
one_mark flag c = flag ≼ 0 or c.bottom.mark ≼ c.top.mark and c.top.mark ≼ c.bottom.mark

-- the layer's own articles
unfoldable pub yard_articles : ℕ → ℕ → ℕ → Cage → List Article
yard_articles most least flag c =
    article 41 (few_bars most c)
    ∷ article 42 (wide_spacing least c.ties)
    ∷ article 43 (one_mark flag c)
    ∷ []

-- what the layer answers of its own
unfoldable pub yard_answer : ℕ → ℕ → ℕ → Cage → ℕ
yard_answer most least flag c = first_broken (yard_articles most least flag c)
