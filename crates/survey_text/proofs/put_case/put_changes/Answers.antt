use Rattle.std.proofs.Common.{List, rules}
use Rattle.std.proofs.lemmas.List.{at_drop_all}
use Rattle.net_base.specs.declared.plan.service_plan.ServicePlan.{ServicePlan}
use Rattle.survey_text.specs.Text.{change_texts}
use Rattle.survey_text.proofs.TextLemmas.{changes_step}
use Rattle.std.proofs.lemmas.Result.{err_from_is_err_and}
use Rattle.text_lines.proofs.WrittenLemmas.{putting_all, putting_cut, putting_more, putting_none}
use Rattle.survey_text.proofs.put_case.put_changes.Goals as goal

pub loop-service-init : goal.loop-service-init
loop-service-init g c = putting_none _ _

pub returns-in_err-put_change : goal.returns-in_err-put_change
returns-in_err-put_change g c =
    let p = err_from_is_err_and c.from_residual.result c.from_residual.ensures.1 in
    rw p.1 (putting_cut _ _ _ _ _ _ _ (changes_step c.args.worked.over.plan.now g.case.before g.case.faults c.loop-service.service c.loop-service.service c.args.worked.over.plan.now.services (search rules)) c.loop-service.invariant c.in_err-put_change.ensures)

pub loop-service-preserved : goal.loop-service-preserved
loop-service-preserved g c = putting_more _ _ _ _ _ _ _ (changes_step c.args.worked.over.plan.now g.case.before g.case.faults c.loop-service.service c.loop-service.service c.args.worked.over.plan.now.services (search rules)) c.loop-service.invariant c.in_ok-put_change.ensures

pub returns : goal.returns
returns g c = putting_all _ _ _ _ (at_drop_all (λ (rows : List ServicePlan). change_texts c.args.worked.over.plan.now g.case.before g.case.faults c.loop-service.service rows) c.args.worked.over.plan.now.services c.loop-service.service (search rules)) c.loop-service.invariant
