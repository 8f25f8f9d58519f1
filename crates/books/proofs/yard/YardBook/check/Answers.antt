use Rattle.std.proofs.Common.{◌≡◌, ◌∙◌, refl, sym, rules}
use Rattle.books.specs.Yard.{yard_articles, yard_answer}
use Rattle.books.proofs.Reflect.{own_answer, lower_answer, tells_over}
use Rattle.books.proofs.yard.YardBook.check.Goals as goal

pub returns-in-0 : goal.returns-in-0
unfolding yard_answer yard_articles
returns-in-0 g c =
    let passed : 0 ≡ g.B.Book.answer c.args.self.now.below c.args.beam.now c.args.cage.now = sym c.in-0.is ∙ c.check.ensures.answers_its_meaning in
    let e = own_answer _ _ _ passed (c.answer.ensures.number_of_the_broken_or_0 ∙ c.ask_all.ensures) in
    let t = tells_over _ (yard_articles c.args.self.now.most_bars c.args.self.now.least_spacing c.args.self.now.one_mark c.args.cage.now) _ refl e in
    record { answers_its_meaning = e; lower_answer_comes_first = t.lower_first; then_passes_exactly_when_every_article_holds = t.passes; then_refusal_names_the_first_broken_article = t.refuses }

pub returns-in_default : goal.returns-in_default
unfolding yard_answer yard_articles
returns-in_default g c =
    let e = lower_answer _ _ _ c.check.ensures.answers_its_meaning (search rules) in
    let t = tells_over _ (yard_articles c.args.self.now.most_bars c.args.self.now.least_spacing c.args.self.now.one_mark c.args.cage.now) _ refl e in
    record { answers_its_meaning = e; lower_answer_comes_first = t.lower_first; then_passes_exactly_when_every_article_holds = t.passes; then_refusal_names_the_first_broken_article = t.refuses }
