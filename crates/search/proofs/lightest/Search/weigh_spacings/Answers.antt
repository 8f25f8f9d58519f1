use Rattle.std.proofs.Common.{◌≡◌, ◌∙◌, T, sym, ap, subst, arith}
use Rattle.stock.specs.declared.kind.Kind.TheVariants.{Tie}
use Rattle.stock.specs.Stock.{has}
use Rattle.search.specs.Lightest.{FromStock}
use Rattle.search.specs.Search.{mark_place, spacing_place}
use Rattle.search.proofs.Loops.{turned}
use Rattle.search.proofs.Steps.{too_heavy}
use Rattle.search.proofs.PlaceLemmas.{same_mark, later_heavier, of_mark, same_ties_place, with_bars}
use Rattle.search.proofs.lightest.Search.weigh_spacings.Goals.{then-not-has_ties-via-then-not-has_ties, then-not-has_ties-via-else-not-has_ties+then-stands_against}
use Rattle.search.proofs.lightest.Search.weigh_spacings.Goals as goal

-- the mark is out, or all its cages are too heavy
pub returns-then-not-has_ties-clause-right_for_these_cages : goal.returns-then-not-has_ties-clause-right_for_these_cages
returns-then-not-has_ties-clause-right_for_these_cages g c =
    λ d p.
    let asked = c.args.self.now in
    let beam = asked.beam.now in
    let widest = of_mark asked.ties asked.every_ties beam asked.ties_weighed c.args.mark 0 _ c.index-ties-0.result c.requires.place_of_a_mark (omega arith) (omega arith) c.index-ties-0.is in
    elim c.then-not-has_ties.branch [
      | then-not-has_ties-via-then-not-has_ties w ↦
          let e = same_mark d.ties c.index-ties-0.result.ties (p.3 ∙ sym widest.0) in
          absurd (subst T (ap (has asked.stock.now Tie) e ∙ sym c.has_ties.ensures.whether_the_mark_is_in ∙ w.if-not-has_ties.true) p.0.2)
      | then-not-has_ties-via-else-not-has_ties+then-stands_against w ↦
          let e = with_bars beam d c.args.bottom.now c.args.top.now c.requires.weighed p.1 p.2 in
          let least = later_heavier beam c.index-ties-0.result.ties d.ties (widest.0 ∙ sym p.3) (omega (arith, widest.1)) in
          too_heavy (g.P.Book.answer asked.pile.now) beam c.args.best _ d (w.stands_against.ensures.0 w.if-stands_against.true) (omega (arith, e, least, widest.2))
    ]

pub weigh_cage-found-requires-clause-all_in : goal.weigh_cage-found-requires-clause-all_in
weigh_cage-found-requires-clause-all_in g c =
    let asked = c.args.self.now in
    let here = of_mark asked.ties asked.every_ties asked.beam.now asked.ties_weighed c.args.mark in
    let widest = here 0 _ c.index-ties-0.result c.requires.place_of_a_mark (omega arith) (omega arith) c.index-ties-0.is in
    let item = here c.loop-t.t-index _ c.t-item.result c.requires.place_of_a_mark (omega arith) (omega arith) c.t-item.is in
    let e = same_mark c.t-item.result.ties c.index-ties-0.result.ties (item.0 ∙ sym widest.0) in (
      c.requires.bars_in.0,
      c.requires.bars_in.1,
      subst T (sym (ap (has asked.stock.now Tie) e ∙ sym c.has_ties.ensures.whether_the_mark_is_in ∙ c.if-not-has_ties.false)) tt,
    )

pub loop-t-preserved : goal.loop-t-preserved
loop-t-preserved g c =
    let asked = c.args.self.now in
    let inner = c.weigh_cage-found.ensures in
    let item = of_mark asked.ties asked.every_ties asked.beam.now asked.ties_weighed c.args.mark c.loop-t.t-index _ c.t-item.result c.requires.place_of_a_mark (omega arith) (omega arith) c.t-item.is in
    turned (λ k. k) (λ d. spacing_place d.ties) (λ d. FromStock (has asked.stock.now) d × (d.bottom ≡ c.args.bottom.now.bars) × (d.top ≡ c.args.top.now.bars) × (mark_place d.ties ≡ c.args.mark))
    (λ _ e. e) c.loop-t.invariant.0
    inner.keeps_what_was_right (λ d p e. inner.right_for_these_cages d (p.1, p.2, same_ties_place d.ties c.t-item.result.ties (omega (arith, p.3, e, item.0, item.1)))) c.loop-t.invariant.1
