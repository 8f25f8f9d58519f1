use Rattle.std.proofs.Common.{rules, ◌<◌, ◌∙◌, length, subst, slice_index_or}
use Rattle.sheet.specs.Calls.{Makes, refusal}
use Rattle.sheet.specs.Law.{calls_of}
use Rattle.sheet.specs.Runs.{AnswersLawfully}
use Rattle.sheet.specs.Shown.{shown_at}
use Rattle.sheet.proofs.Runs.{lawful}
use Rattle.sheet.proofs.Shows.{one_shown}
use Rattle.sheet.proofs.Running.{one_more, same_calls, history}
use Rattle.sheet.proofs.run.run.Goals as goal

pub loop-exchange-preserved : goal.loop-exchange-preserved
loop-exchange-preserved g c =
    let l = c.loop-exchange in
    let call = (slice_index_or l.exchanges l.exchange-index c.exchange-item.result).call in
    let within : l.exchange-index < length l.exchanges = search rules in
    let pile = g.P.Book.answer c.args.pile in (
      c.make.ensures.keeps_the_pile ∙ l.invariant.0,
      one_more pile l.exchanges l.exchange-index l.sheet.table c.make.new.self.table c.exchange-item.result c.make.result within l.invariant.1
          (subst (λ p. Makes (g.P.Book.answer p) l.sheet.table call (refusal c.make.result) c.make.new.self.table) l.invariant.0 c.make.ensures.as_the_call)
          (subst (λ p. AnswersLawfully (g.P.Book.answer p) l.sheet.table call c.make.result) l.invariant.0 c.make.ensures.as_the_calls_before_determine),
      same_calls pile l.exchanges l.exchange-index l.sheet.table c.make.new.self.table c.exchange-item.result c.make.result within ∙ l.invariant.2,
    )

pub returns-clause-history_of_these_calls : goal.returns-clause-history_of_these_calls
returns-clause-history_of_these_calls g c =
    let l = c.loop-exchange in
    history (g.P.Book.answer c.args.pile) l.exchanges c.args.exchanges.now l.exchange-index l.sheet.table (search rules) l.invariant.1 l.invariant.2

pub returns-clause-sound_and_lightest : goal.returns-clause-sound_and_lightest
returns-clause-sound_and_lightest g c =
    λ p. lawful (g.P.Book.answer c.args.pile) (calls_of c.args.exchanges.now) c.loop-exchange.sheet.table (returns-clause-history_of_these_calls g c) p

pub returns-clause-shows_nothing_else : goal.returns-clause-shows_nothing_else
returns-clause-shows_nothing_else g c =
    λ p shown h.
    one_shown (g.P.Book.answer c.args.pile) (calls_of c.args.exchanges.now) p shown (shown_at c.loop-exchange.sheet p) h.right
    (returns-clause-sound_and_lightest g c p).right
