use Rattle.std.proofs.Common.{rules, ◌≡◌, List, ℕ, [], ◌++◌, length, take, slice_index_or, Some, refl, sym, ap, ◌∙◌, subst, arith}
use Rattle.std.specs.Borrow.{Bor}
use Rattle.console.specs.Streams.{EndsPrinted, EndsLightest, EndsAlone}
use Rattle.console.specs.Pages.{joined}
use Rattle.console.specs.Feeding.{Continues}
use Rattle.console.proofs.Continuing.{stays, piece_more, all_read, prints}
use Rattle.console.proofs.Pages.{joined_more, joined_all, length_more, length_part, behind}
use Rattle.console.proofs.page.answer_pieces.Goals as goal

abbrev none : Bor (List ℕ)
none = record { ref_ptr = (0, 0); now = [] }

pub loop-piece-init : goal.loop-piece-init
loop-piece-init g c = (refl, omega arith, refl, stays (g.P.Book.answer c.open-console.result.sheet.pile) c.open-console.result (Some []))

pub answer_piece-written-requires : goal.answer_piece-written-requires
answer_piece-written-requires g c =
    let part = length_part c.args.pieces.now c.loop-piece.piece-index none c.loop-piece-test.true in
    omega (arith, part, c.loop-piece.invariant.1, c.requires)

pub loop-piece-preserved : goal.loop-piece-preserved
loop-piece-preserved g c =
    let l = c.loop-piece in
    let first = c.open-console.result in
    let pile = g.P.Book.answer first.sheet.pile in
    let b = slice_index_or c.args.pieces.now l.piece-index none in
    let mid = Some (take l.written l.page) in
    let new = Some (take c.answer_piece-written.result c.answer_piece-written.new.page) in
    let more = length_more c.args.pieces.now l.piece-index none c.loop-piece-test.true in (
      c.answer_piece-written.ensures.keeps_the_pile ∙ l.invariant.0,
      omega (arith, more, l.invariant.1, c.answer_piece-written.ensures.at_most_a_line_for_each_byte),
      behind c.args.page.now l.page c.answer_piece-written.new.page l.written c.answer_piece-written.result
          c.answer_piece-written.ensures.at_most_a_line_for_each_byte.0 l.invariant.2 c.answer_piece-written.ensures.rest,
      subst (λ (v : List ℕ). Continues pile first v (Some []) c.answer_piece-written.new.console new)
          (sym (joined_more c.args.pieces.now l.piece-index none c.loop-piece-test.true))
          (piece_more pile first l.console c.answer_piece-written.new.console (joined (take l.piece-index c.args.pieces.now)) b.now (Some []) mid new l.invariant.3
          (subst (λ p. Continues (g.P.Book.answer p) l.console b.now mid c.answer_piece-written.new.console new) l.invariant.0 c.answer_piece-written.ensures.lines_due)),
    )

pub append-requires : goal.append-requires
append-requires g c =
    let all = ap length (joined_all c.args.pieces.now c.loop-piece.piece-index (search rules)) in
    omega (arith, all, c.loop-piece.invariant.1, c.requires, c.as_slice.ensures.fits)

pub returns-clause-prints : goal.returns-clause-prints
returns-clause-prints g c =
    let l = c.loop-piece in
    let first = c.open-console.result in
    let last = l.console in
    let out = take c.append.result c.append.new.page in
    let mid = Some (take l.written l.page) in
    let opened = c.open-console.ensures.keeps_the_pile in
    let kept = l.invariant.0 ∙ opened in
    let stream = joined c.args.pieces.now in
    let all : joined (take l.piece-index c.args.pieces.now) ≡ stream = joined_all c.args.pieces.now l.piece-index (search rules) in
    prints (g.P.Book.answer c.args.pile) (Some stream) first last c.end.result.items (Some []) mid (Some out) (Some out) c.open-console.ensures.history_begins
    (all_read (g.P.Book.answer c.args.pile) stream first last (Some []) mid
    (subst (λ p. Continues (g.P.Book.answer p) first stream (Some []) last mid) opened
    (subst (λ (v : List ℕ). Continues (g.P.Book.answer first.sheet.pile) first v (Some []) last mid) all l.invariant.3)))
    (subst (λ p. EndsPrinted (g.P.Book.answer p) last c.end.result.items) kept c.end.ensures.lines_and_bill)
    (subst (λ p. EndsLightest (g.P.Book.answer p) last c.end.result.items) kept c.end.ensures.printed_cages_are_sound_and_lightest)
    (subst (λ p. EndsAlone (g.P.Book.answer p) last c.end.result.items) kept c.end.ensures.nothing_else_is_printed)
    (c.append.ensures.text ∙ ap (λ (v : List ℕ). take l.written l.page ++ v) c.as_slice.ensures.value) refl

pub returns-clause-rest : goal.returns-clause-rest
returns-clause-rest g c =
    let l = c.loop-piece in
    behind c.args.page.now l.page c.append.new.page l.written c.append.result (omega (arith, c.append.ensures.count)) l.invariant.2 c.append.ensures.rest

pub returns-clause-within : goal.returns-clause-within
returns-clause-within g c =
    let all = ap length (joined_all c.args.pieces.now c.loop-piece.piece-index (search rules)) in
    omega (arith, all, c.loop-piece.invariant.1, c.requires, c.as_slice.ensures.fits, c.append.ensures.count)
