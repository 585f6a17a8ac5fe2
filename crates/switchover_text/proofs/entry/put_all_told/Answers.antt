-- The line of one more entry is put.
use Rattle.std.proofs.lemmas.Result.{err_from_is_err_and}
use Rattle.switchover_text.proofs.TextLemmas.{told_from}
use Rattle.text_lines.proofs.WrittenLemmas.{putting_cut, putting_more}
use Rattle.switchover_text.proofs.entry.put_all_told.Goals as goal

pub returns-in_err-put_told : goal.returns-in_err-put_told
returns-in_err-put_told g c =
    let p = err_from_is_err_and c.from_residual.result c.from_residual.ensures.1 in
    let split = told_from c.args.plan.now c.args.entries.now c.loop-entry.entry-index c.entry-item.result c.loop-entry-test.true c.entry-item.is in
    rw p.1 (putting_cut _ _ _ _ _ _ _ split c.loop-entry.invariant c.in_err-put_told.ensures)

pub loop-entry-preserved : goal.loop-entry-preserved
loop-entry-preserved g c =
    let split = told_from c.args.plan.now c.args.entries.now c.loop-entry.entry-index c.entry-item.result c.loop-entry-test.true c.entry-item.is in
    putting_more _ _ _ _ _ _ _ split c.loop-entry.invariant c.in_ok-put_told.ensures
