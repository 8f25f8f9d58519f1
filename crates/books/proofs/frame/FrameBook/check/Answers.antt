use Rattle.std.proofs.Common.{◌≡◌, rules}
use Rattle.books.specs.Rules.{over}
use Rattle.books.specs.Frame.{frame_articles_for, frame_answer}
use Rattle.books.proofs.Reflect.{tells_over}
use Rattle.books.proofs.Numbered.{frame_numbered}
use Rattle.books.proofs.frame.FrameBook.check.Goals as goal

pub returns-in-0 : goal.returns-in-0
unfolding frame_answer
returns-in-0 g c =
    let b = c.args.beam.now in
    let k = c.args.cage.now in
    let e : c.answer.result ≡ over (g.B.Book.answer c.args.self.now.below b k) (frame_answer b k) = search rules in
    let t = tells_over _ (frame_articles_for b k) _ (frame_numbered b k) e in
    record { answers_its_meaning = e; lower_answer_comes_first = t.lower_first; then_passes_exactly_when_every_article_holds = t.passes; then_refusal_names_the_first_broken_article = t.refuses }

pub returns-in_default : goal.returns-in_default
unfolding frame_answer
returns-in_default g c =
    let b = c.args.beam.now in
    let k = c.args.cage.now in
    let e : c.check.result ≡ over (g.B.Book.answer c.args.self.now.below b k) (frame_answer b k) = search rules in
    let t = tells_over _ (frame_articles_for b k) _ (frame_numbered b k) e in
    record { answers_its_meaning = e; lower_answer_comes_first = t.lower_first; then_passes_exactly_when_every_article_holds = t.passes; then_refusal_names_the_first_broken_article = t.refuses }
