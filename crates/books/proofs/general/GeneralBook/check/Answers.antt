use Rattle.std.proofs.Common.{◌≡◌, ◌∙◌, refl}
use Rattle.books.specs.Rules.{first_broken}
use Rattle.books.specs.General.{articles_for, general_answer}
use Rattle.books.proofs.Reflect.{tells}
use Rattle.books.proofs.general.GeneralBook.check.Goals as goal

pub returns : goal.returns
unfolding general_answer articles_for
returns c =
    let l = articles_for c.args.beam.now c.args.cage.now in
    let e : c.answer.result ≡ first_broken l = c.answer.ensures.number_of_the_broken_or_0 ∙ c.ask_all.ensures in
    let t = tells l _ refl e in
    record { answers_its_meaning = e; passes_exactly_when_every_article_holds = t.0; refusal_names_the_first_broken_article = t.1 }
