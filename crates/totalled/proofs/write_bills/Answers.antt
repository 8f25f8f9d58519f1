use Rattle.std.proofs.Common.{rules, Ok, arith}
use Rattle.std.specs.Prelude.{IsErr}
use Rattle.bill.specs.Steps.{BegunAs, LineAs, TotalAs}
use Rattle.totalled.proofs.Bills.{no_head, no_line_of, no_total_of, no_second, no_next_head, no_next_line, both}
use Rattle.totalled.proofs.write_bills.Goals as goal

pub returns-clause-two_bills_or_refused : goal.returns-clause-two_bills_or_refused
returns-clause-two_bills_or_refused c =
    let begun : BegunAs c.args.page.now (Ok c.in_ok-begun.begun) c.begin.new.page = search rules in
    let lined : LineAs c.in_ok-begun.begun c.begin.new.page c.args.reading.now (Ok c.in_ok-lined.lined) c.line.new.page = grind arith in
    let totalled : TotalAs c.in_ok-lined.lined c.line.new.page (Ok c.in_ok-totalled.totalled) c.total.new.page = grind arith in
    let next : BegunAs c.args.next.now (Ok c.in_ok-another.another) c.begin-2.new.page = search rules in
    let torn : LineAs c.in_ok-another.another c.begin-2.new.page c.args.reading.now (Ok c.in_ok-lined-2.lined) c.line-2.new.page = grind arith in
    rw (c.written-first.ensures.bytes_written, c.tear.ensures.bytes_written)
    (both c.args.page.now c.args.next.now c.begin.new.page c.begin-2.new.page c.line.new.page c.line-2.new.page c.total.new.page
    c.args.reading.now.place c.in_ok-begun.begun c.in_ok-lined.lined c.in_ok-another.another c.in_ok-lined-2.lined c.in_ok-totalled.totalled
    begun next totalled c.args.reading.now.shown lined.0 lined.1 torn.0 torn.1)

pub returns-in_err-begun-clause-written_before_a_refusal : goal.returns-in_err-begun-clause-written_before_a_refusal
returns-in_err-begun-clause-written_before_a_refusal c =
    let left = no_head c.args.page.now c.args.next.now c.begin.new.page c.args.reading.now.place c.args.reading.now.shown c.in_err-begun.field-0.0
    c.in_err-begun.ensures.head_on_the_page_or_refused in
    search rules

pub returns-in_err-lined-clause-written_before_a_refusal : goal.returns-in_err-lined-clause-written_before_a_refusal
returns-in_err-lined-clause-written_before_a_refusal c =
    let begun : BegunAs c.args.page.now (Ok c.in_ok-begun.begun) c.begin.new.page = search rules in
    let refused : IsErr c.line.result = grind arith in
    let left = no_line_of c.args.page.now c.args.next.now c.begin.new.page c.args.reading.now c.in_ok-begun.begun begun c.line.result c.line.new.page refused
    c.line.ensures.line_on_the_page_or_handed_back in
    search rules

pub returns-in_err-totalled-clause-written_before_a_refusal : goal.returns-in_err-totalled-clause-written_before_a_refusal
returns-in_err-totalled-clause-written_before_a_refusal c =
    let begun : BegunAs c.args.page.now (Ok c.in_ok-begun.begun) c.begin.new.page = search rules in
    let lined : LineAs c.in_ok-begun.begun c.begin.new.page c.args.reading.now (Ok c.in_ok-lined.lined) c.line.new.page = grind arith in
    let refused : IsErr c.total.result = grind arith in
    let left = no_total_of c.args.page.now c.args.next.now c.begin.new.page c.args.reading.now c.in_ok-begun.begun begun c.line.new.page c.in_ok-lined.lined lined
    c.total.result c.total.new.page refused c.total.ensures.total_on_the_page_or_handed_back in
    search rules

pub returns-in_err-another-clause-written_before_a_refusal : goal.returns-in_err-another-clause-written_before_a_refusal
returns-in_err-another-clause-written_before_a_refusal c =
    let begun : BegunAs c.args.page.now (Ok c.in_ok-begun.begun) c.begin.new.page = search rules in
    let lined : LineAs c.in_ok-begun.begun c.begin.new.page c.args.reading.now (Ok c.in_ok-lined.lined) c.line.new.page = grind arith in
    let totalled : TotalAs c.in_ok-lined.lined c.line.new.page (Ok c.in_ok-totalled.totalled) c.total.new.page = grind arith in
    let left = no_second c.args.page.now c.args.next.now c.begin.new.page c.args.reading.now.place c.in_ok-begun.begun begun c.line.new.page c.in_ok-lined.lined
    c.total.new.page c.begin-2.new.page c.in_ok-totalled.totalled c.args.reading.now.shown lined.0 lined.1 totalled
    (no_next_head c.args.next.now c.begin-2.new.page c.in_err-another.field-0.0 c.in_err-another.ensures.head_on_the_page_or_refused) in
    search rules

pub returns-in_err-lined-2-clause-written_before_a_refusal : goal.returns-in_err-lined-2-clause-written_before_a_refusal
returns-in_err-lined-2-clause-written_before_a_refusal c =
    let begun : BegunAs c.args.page.now (Ok c.in_ok-begun.begun) c.begin.new.page = search rules in
    let lined : LineAs c.in_ok-begun.begun c.begin.new.page c.args.reading.now (Ok c.in_ok-lined.lined) c.line.new.page = grind arith in
    let totalled : TotalAs c.in_ok-lined.lined c.line.new.page (Ok c.in_ok-totalled.totalled) c.total.new.page = grind arith in
    let next : BegunAs c.args.next.now (Ok c.in_ok-another.another) c.begin-2.new.page = search rules in
    let refused : IsErr c.line-2.result = grind arith in
    let left = no_second c.args.page.now c.args.next.now c.begin.new.page c.args.reading.now.place c.in_ok-begun.begun begun c.line.new.page c.in_ok-lined.lined
    c.total.new.page c.line-2.new.page c.in_ok-totalled.totalled c.args.reading.now.shown lined.0 lined.1 totalled
    (no_next_line c.args.next.now c.begin-2.new.page c.args.reading.now c.in_ok-another.another next c.line-2.result c.line-2.new.page refused
    c.line-2.ensures.line_on_the_page_or_handed_back) in
    search rules
