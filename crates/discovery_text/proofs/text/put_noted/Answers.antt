-- One more note is put, with the entries before it.
use Rattle.std.proofs.lemmas.Result.{err_from_is_err_and}
use Rattle.discovery_text.proofs.NoteLemmas.{noted_end, noted_from, putting_last}
use Rattle.text_lines.proofs.WrittenLemmas.{putting_cut, putting_more, putting_none}
use Rattle.discovery_text.proofs.text.put_noted.Goals as goal

pub loop-placed-init : goal.loop-placed-init
loop-placed-init g c = putting_none _ _

pub returns-in_err-put_placed : goal.returns-in_err-put_placed
returns-in_err-put_placed g c =
    let p = err_from_is_err_and c.from_residual.result c.from_residual.ensures.1 in
    rw p.1 (putting_cut _ _ _ _ _ _ _
    (noted_from c.args.plan.now c.loop-placed.written c.saturating_sub-count.result c.loop-placed.rest.now c.cut_at.result.0.now c.cut_at.result.1.now c.args.notes.now c.loop-placed.placed-index _ c.loop-placed-test.true c.saturating_sub-count.ensures c.cut_at.ensures.front c.cut_at.ensures.behind)
    c.loop-placed.invariant c.in_err-put_placed.ensures)

pub loop-placed-preserved : goal.loop-placed-preserved
loop-placed-preserved g c =
    putting_more _ _ _ _ _ _ _
    (noted_from c.args.plan.now c.loop-placed.written c.saturating_sub-count.result c.loop-placed.rest.now c.cut_at.result.0.now c.cut_at.result.1.now c.args.notes.now c.loop-placed.placed-index _ c.loop-placed-test.true c.saturating_sub-count.ensures c.cut_at.ensures.front c.cut_at.ensures.behind)
    c.loop-placed.invariant c.in_ok-put_placed.ensures

pub returns : goal.returns
returns g c =
    putting_last c.put_entries.result _ _ _ _ _ _ (noted_end c.args.plan.now c.loop-placed.written c.loop-placed.rest.now c.args.notes.now c.loop-placed.placed-index c.loop-placed-test.false) c.loop-placed.invariant c.put_entries.ensures
