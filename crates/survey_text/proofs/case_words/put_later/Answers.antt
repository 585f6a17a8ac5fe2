use Rattle.survey_text.proofs.SiteLemmas.{later_step}
use Rattle.std.proofs.lemmas.Result.{err_from_is_err_and}
use Rattle.text_lines.proofs.WrittenLemmas.{putting_cut, putting_more}
use Rattle.survey_text.proofs.case_words.put_later.Goals as goal

pub returns-in_err-put_plus : goal.returns-in_err-put_plus
returns-in_err-put_plus g c =
    let p = err_from_is_err_and c.from_residual.result c.from_residual.ensures.1 in
    rw p.1 (putting_cut _ _ _ _ _ _ _ (later_step c.args.plan.now c.args.faults.now c.loop-fault.fault-index _ c.loop-fault-test.true) c.loop-fault.invariant c.in_err-put_plus.ensures)

pub loop-fault-preserved : goal.loop-fault-preserved
loop-fault-preserved g c = putting_more _ _ _ _ _ _ _ (later_step c.args.plan.now c.args.faults.now c.loop-fault.fault-index _ c.loop-fault-test.true) c.loop-fault.invariant c.in_ok-put_plus.ensures
