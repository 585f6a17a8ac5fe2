use Rattle.std.proofs.Common.{List, rules}
use Rattle.std.proofs.lemmas.List.{at_drop_all}
use Rattle.net_base.specs.declared.plan.service_plan.ServicePlan.{ServicePlan}
use Rattle.survey_text.specs.Text.{service_texts}
use Rattle.survey_text.proofs.TextLemmas.{services_step}
use Rattle.std.proofs.lemmas.Result.{err_from_is_err_and}
use Rattle.text_lines.proofs.WrittenLemmas.{putting_all, putting_cut, putting_more, putting_none}
use Rattle.survey_text.proofs.put_ground.put_services.Goals as goal

pub loop-place-init : goal.loop-place-init
loop-place-init g c = putting_none _ _

pub returns-in_err-put_service : goal.returns-in_err-put_service
returns-in_err-put_service g c =
    let p = err_from_is_err_and c.from_residual.result c.from_residual.ensures.1 in
    rw p.1 (putting_cut _ _ _ _ _ _ _ (services_step c.args.over.plan.now g.before c.loop-place.place c.loop-place.place c.args.over.plan.now.services (search rules)) c.loop-place.invariant c.in_err-put_service.ensures)

pub loop-place-preserved : goal.loop-place-preserved
loop-place-preserved g c = putting_more _ _ _ _ _ _ _ (services_step c.args.over.plan.now g.before c.loop-place.place c.loop-place.place c.args.over.plan.now.services (search rules)) c.loop-place.invariant c.in_ok-put_service.ensures

pub returns : goal.returns
returns g c = putting_all _ _ _ _ (at_drop_all (λ (rows : List ServicePlan). service_texts c.args.over.plan.now g.before c.loop-place.place rows) c.args.over.plan.now.services c.loop-place.place (search rules)) c.loop-place.invariant
