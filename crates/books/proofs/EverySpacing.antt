-- Refusals that hold at every spacing.
use Rattle.std.proofs.Common.{◌≡◌, ◌≢◌, ℕ, ◌∙◌, Option, Some, None, MatchOption, refl, sym, ap, arith}
use Rattle.rebar.specs.declared.section.Section.{Section}
use Rattle.rebar.specs.declared.materials.Materials.{Materials}
use Rattle.rebar.specs.declared.member.Member.{Member}
use Rattle.std.proofs.lemmas.Bool.Decides.{nat_tests}
use Rattle.loads.specs.declared.actions.Actions.{Actions}
use Rattle.rebar.specs.declared.beam.Beam.{Beam}
use Rattle.rebar.specs.declared.cage.Ties.{Ties}
use Rattle.rebar.specs.declared.cage.Cage.{Cage}
use Rattle.books.specs.Rules.{over, first_broken}
use Rattle.books.specs.Answers.{with_ties, AtEverySpacing}
use Rattle.books.specs.Numbers.{z_of}
use Rattle.books.specs.General.{of_bars, in_shear, general, articles_for, refusal_of_bars, general_answer}
use Rattle.books.proofs.Reflect.{joined, when_own, when_lower}

-- where the articles of the bars refuse, the general book answers their number
pub bars_refuse : (s : Section) (m : Materials) (member : Member) (a : Actions) (c : Cage) (n : ℕ)
    → first_broken (of_bars s m a c) ≡ n → n ≢ 0 → n ≡ first_broken (general s m member a c)
bars_refuse s m member a c n e ne =
    sym (joined (of_bars s m a c) (in_shear s m member.shear_factor a.shear c.ties (z_of s m c)) refl
    ∙ when_lower _ _ _ refl (λ z. ne (sym e ∙ z)) ∙ e)

-- where they hold, it answers what the articles 10 to 13 do
pub shear_answers : (s : Section) (m : Materials) (member : Member) (a : Actions) (c : Cage) (n : ℕ)
    → first_broken (of_bars s m a c) ≡ 0 → n ≡ first_broken (in_shear s m member.shear_factor a.shear c.ties (z_of s m c))
    → n ≡ first_broken (general s m member a c)
shear_answers s m member a c n z e =
    e ∙ sym (joined (of_bars s m a c) (in_shear s m member.shear_factor a.shear c.ties (z_of s m c)) refl ∙ when_own _ _ _ refl z)

-- the articles of the bars are the same at every spacing
same_articles : (b : Beam) (c : Cage) (t : Ties) → t.mark ≡ c.ties.mark
    → of_bars b.section b.materials b.actions (with_ties c t) ≡ of_bars b.section b.materials b.actions c
same_articles b c t e = rw e refl

-- and so is their refusal, which is that of the general book
pub of_general : (b : Beam) (c : Cage) (n : ℕ) → first_broken (of_bars b.section b.materials b.actions c) ≡ n → n ≢ 0
    → AtEverySpacing general_answer b c n
unfolding general_answer articles_for
of_general b c n e ne = (
  ne,
  λ t same.
      let lower : first_broken (of_bars b.section b.materials b.actions (with_ties c t)) ≡ n = ap first_broken (same_articles b c t same) ∙ e in
      sym (bars_refuse b.section b.materials b.member b.actions (with_ties c t) n lower ne),
)

-- what the general book tells
pub known_refusal : (b : Beam) (c : Cage) (n : ℕ) → first_broken (of_bars b.section b.materials b.actions c) ≡ n → n ≢ 0 → Some n ≡ refusal_of_bars b c
unfolding refusal_of_bars
known_refusal b c n e ne = rw e (grind (arith, nat_tests))

pub known_none : (b : Beam) (c : Cage) → first_broken (of_bars b.section b.materials b.actions c) ≡ 0 → None ≡ refusal_of_bars b c
unfolding refusal_of_bars
known_none b c e = rw e refl

-- a layer refuses what the book below it refuses
pub passed_on : (lower own : Beam → Cage → ℕ) (b : Beam) (c : Cage) (r : Option ℕ)
    → MatchOption r Unit (AtEverySpacing lower b c)
    → MatchOption r Unit (AtEverySpacing (λ x y. over (lower x y) (own x y)) b c)
passed_on lower own b c None h = tt
passed_on lower own b c (Some n) h = (h.0, λ t same. when_lower _ _ _ refl (λ z. h.0 (sym (h.1 t same) ∙ z)) ∙ h.1 t same)
