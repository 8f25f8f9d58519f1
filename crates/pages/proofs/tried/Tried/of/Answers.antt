use Rattle.std.proofs.Common.{refl, append-nil}
use Rattle.pages.proofs.tried.Tried.of.Goals as goal

pub returns : goal.returns
returns c =
    let tries = c.stepped-bill.ensures.step_after_the_lines in
    record {
      step_and_total = record {
        step = c.stepped-bill.result;
        mid = c.stepped-bill.new.page;
        stepped = tries;
        refusal = refl;
        written = c.written-written.ensures;
        left = c.unwritten-left.ensures;
        end = c.totalled.result;
        ended = c.totalled.ensures.total_added_or_refused;
        whole = rw c.left.ensures at c.end-whole.ensures;
        bill = rw (append-nil tries.lines) at (c.totalled.ensures.lines_kept tries.lines c.args.page.now tries.bill);
      };
    }
