use Rattle.std.proofs.Common.{[], length, ap, arith, rules}
use Rattle.std.proofs.lemmas.Bool.{false≢true}
use Rattle.console.proofs.Pages.{joined_all, length_more, length_part}
use Rattle.console.proofs.page.has_room.Goals as goal

pub returns-in_default-checked_sub : goal.returns-in_default-checked_sub
returns-in_default-checked_sub c =
    let part = length_part c.args.pieces.now c.loop-piece.piece-index (record { ref_ptr = (0, 0); now = [] }) c.loop-piece-test.true in
    ((λ h. absurd (false≢true h)), (λ h. absurd (omega (arith, part, h, c.loop-piece.invariant, c.in-Some.ensures, c.in_default-checked_sub.ensures))))

pub loop-piece-preserved : goal.loop-piece-preserved
loop-piece-preserved c =
    let more = length_more c.args.pieces.now c.loop-piece.piece-index (record { ref_ptr = (0, 0); now = [] }) c.loop-piece-test.true in
    omega (arith, more, c.loop-piece.invariant, c.in-Some-checked_sub.ensures)

pub returns : goal.returns
returns c =
    let all = ap length (joined_all c.args.pieces.now c.loop-piece.piece-index (search rules)) in
    ((λ _. omega (arith, all, c.loop-piece.invariant, c.in-Some.ensures)), (λ _. search rules))
