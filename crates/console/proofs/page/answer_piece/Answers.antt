use Rattle.std.proofs.Common.{rules, List, ℕ, [], ◌∷◌, take, slice_index_or, Some, refl, sym, ◌∙◌, subst, arith}
use Rattle.std.proofs.lemmas.List.{take_more, take_all}
use Rattle.console.specs.Streams.{GoesOn}
use Rattle.console.specs.Feeding.{Continues}
use Rattle.console.proofs.Continuing.{stays, piece_more, byte}
use Rattle.console.proofs.Pages.{behind}
use Rattle.console.proofs.page.answer_piece.Goals as goal

pub loop-byte-init : goal.loop-byte-init
loop-byte-init g c =
    (refl, omega arith, omega arith, refl, stays (g.P.Book.answer c.args.console.now.sheet.pile) c.args.console.now (Some (take c.args.written c.args.page.now)))

pub append_line-end-requires : goal.append_line-end-requires
append_line-end-requires g c = omega (arith, c.loop-byte.invariant.2, c.requires)

pub loop-byte-preserved : goal.loop-byte-preserved
loop-byte-preserved g c =
    let l = c.loop-byte in
    let pile = g.P.Book.answer c.args.console.now.sheet.pile in
    let b = slice_index_or c.args.piece.now l.byte-index 0 in
    let old = Some (take c.args.written c.args.page.now) in
    let mid = Some (take l.end l.page) in
    let new = Some (take c.append_line-end.result c.append_line-end.new.page) in (
      c.take.ensures.keeps_the_pile ∙ l.invariant.0,
      omega (arith, l.invariant.1, c.append_line-end.ensures.at_most_a_line),
      omega (arith, l.invariant.2, c.append_line-end.ensures.at_most_a_line),
      behind c.args.page.now l.page c.append_line-end.new.page l.end c.append_line-end.result c.append_line-end.ensures.at_most_a_line.0 l.invariant.3 c.append_line-end.ensures.rest,
      subst (λ (v : List ℕ). Continues pile c.args.console.now v old c.take.new.self new) (sym (take_more c.args.piece.now l.byte-index 0 (search rules)))
          (piece_more pile c.args.console.now l.console c.take.new.self (take l.byte-index c.args.piece.now) (b ∷ []) old mid new l.invariant.4
          (byte pile l.console c.take.new.self b c.take.result mid new
          (subst (λ p. GoesOn (g.P.Book.answer p) l.console b c.take.result c.take.new.self) l.invariant.0 c.take.ensures.history_goes_on_by_this_byte)
          c.append_line-end.ensures.text)),
    )

pub returns-clause-lines_due : goal.returns-clause-lines_due
returns-clause-lines_due g c =
    let l = c.loop-byte in
    subst (λ (v : List ℕ). Continues (g.P.Book.answer c.args.console.now.sheet.pile) c.args.console.now v (Some (take c.args.written c.args.page.now)) l.console (Some (take l.end l.page)))
    (take_all l.byte-index c.args.piece.now (search rules)) l.invariant.4
