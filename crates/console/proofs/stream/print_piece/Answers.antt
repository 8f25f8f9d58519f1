use Rattle.std.proofs.Common.{rules, List, ℕ, [], ◌∷◌, take, slice_index_or, refl, sym, ◌∙◌, subst}
use Rattle.std.proofs.lemmas.List.{take_more}
use Rattle.console.specs.Streams.{GoesOn}
use Rattle.console.specs.Feeding.{Continues}
use Rattle.console.proofs.Continuing.{stays, piece_more, byte}
use Rattle.console.proofs.stream.print_piece.Goals as goal

pub loop-byte-init : goal.loop-byte-init
loop-byte-init g c = (refl, stays (g.P.Book.answer c.args.console.now.sheet.pile) c.args.console.now (g.W.Write.contents c.args.sink.now))

pub loop-byte-preserved : goal.loop-byte-preserved
loop-byte-preserved g c =
    let l = c.loop-byte in
    let pile = g.P.Book.answer c.args.console.now.sheet.pile in
    let b = slice_index_or c.args.piece.now l.byte-index 0 in
    let old = g.W.Write.contents c.args.sink.now in
    let mid = g.W.Write.contents l.sink in
    let new = g.W.Write.contents c.print_line.new.sink in (
      c.take.ensures.keeps_the_pile ∙ l.invariant.0,
      subst (λ (v : List ℕ). Continues pile c.args.console.now v old c.take.new.self new) (sym (take_more c.args.piece.now l.byte-index 0 (search rules)))
          (piece_more pile c.args.console.now l.console c.take.new.self (take l.byte-index c.args.piece.now) (b ∷ []) old mid new l.invariant.1
          (byte pile l.console c.take.new.self b c.take.result mid new
          (subst (λ p. GoesOn (g.P.Book.answer p) l.console b c.take.result c.take.new.self) l.invariant.0 c.take.ensures.history_goes_on_by_this_byte)
          c.in_ok-print_line.ensures)),
    )
