use Rattle.std.proofs.Common.{◌≡◌, ◌∙◌, sym, refl}
use Rattle.rebar.specs.declared.beam.Beam.{Beam}
use Rattle.rebar.specs.declared.cage.Cage.{Cage}
use Rattle.books.specs.Rules.{first_broken, over}
use Rattle.books.specs.General.{articles_for, general_answer}
use Rattle.books.specs.Frame.{frame_articles_for, frame_answer}
use Rattle.books.specs.Pile.{framed_articles_for}
use Rattle.books.proofs.Reflect.{joined, tells}
use Rattle.books.proofs.Numbered.{both_numbered}
use Rattle.books.proofs.pile.check_framed.Goals as goal

one_list : (b : Beam) (c : Cage) → over (general_answer b c) (frame_answer b c) ≡ first_broken (framed_articles_for b c)
unfolding framed_articles_for articles_for general_answer frame_answer
one_list b c = sym (joined (articles_for b c) (frame_articles_for b c) refl)

pub returns : goal.returns
returns c =
    let e = c.check.ensures.answers_its_meaning in
    let t = tells _ _ (both_numbered c.args.beam.now c.args.cage.now) (e ∙ one_list _ _) in
    record { answers_its_meaning = e; passes_exactly_when_every_article_holds = t.0; refusal_names_the_first_broken_article = t.1 }
