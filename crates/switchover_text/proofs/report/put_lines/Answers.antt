-- One more line is put, with what was told of it.
use Rattle.std.proofs.lemmas.Result.{err_from_is_err_and}
use Rattle.switchover_text.proofs.TextLemmas.{text_end, text_from}
use Rattle.text_lines.proofs.WrittenLemmas.{putting_all, putting_cut, putting_more, putting_none}
use Rattle.switchover_text.proofs.report.put_lines.Goals as goal

pub loop-line-init : goal.loop-line-init
loop-line-init g c = putting_none _ _

pub returns-in_err-put_one : goal.returns-in_err-put_one
returns-in_err-put_one g c =
    let p = err_from_is_err_and c.from_residual.result c.from_residual.ensures.1 in
    rw p.1 (putting_cut _ _ _ _ _ _ _
    (text_from c.args.plan.now c.args.lines.now c.loop-line.rest.now c.next_told.result.1.now c.next_told.result.0.now c.loop-line.line-index _ c.loop-line-test.true c.next_told.ensures.next c.next_told.ensures.behind)
    c.loop-line.invariant c.in_err-put_one.ensures)

pub loop-line-preserved : goal.loop-line-preserved
loop-line-preserved g c =
    putting_more _ _ _ _ _ _ _
    (text_from c.args.plan.now c.args.lines.now c.loop-line.rest.now c.next_told.result.1.now c.next_told.result.0.now c.loop-line.line-index _ c.loop-line-test.true c.next_told.ensures.next c.next_told.ensures.behind)
    c.loop-line.invariant c.in_ok-put_one.ensures

pub returns : goal.returns
returns g c = putting_all _ _ _ _ (text_end c.args.plan.now c.args.lines.now c.loop-line.rest.now c.loop-line.line-index c.loop-line-test.false) c.loop-line.invariant
