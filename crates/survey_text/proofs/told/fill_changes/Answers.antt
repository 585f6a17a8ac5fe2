use Rattle.std.proofs.Common.{ℕ, [], rules, subst}
use Rattle.net_base.specs.declared.plan.places.ServiceId.{ServiceId}
use Rattle.survey_text.specs.Surveys.{AreServices, IsLeft, IsService}
use Rattle.survey_text.proofs.KnownLemmas.{own_service}
use Rattle.survey_text.proofs.LeftLemmas.{placed_more}
use Rattle.survey_text.proofs.told.fill_changes.Goals as goal

pub loop-service-preserved : goal.loop-service-preserved
loop-service-preserved g c =
    let served : AreServices c.args.over.plan.now g.before c.args.services.now = search rules in
    let own : IsService c.args.over.plan.now g.before (record { 0 = c.loop-service.service-index }) c.service-item.result =
    own_service c.args.over.plan.now g.before c.args.services.now c.loop-service.service-index c.service-item.result served (search rules) c.service-item.is in
    record {
      made = placed_more (λ (service : ℕ). IsLeft c.args.over.plan.now g.before (record { 0 = service }) c.args.faults.now []) c.loop-service.service-index c.loop-service.changes.items c.push.new.self.items
          c.in_ok-change.field-0 c.loop-service.invariant.made
          (subst (λ (s : ServiceId). IsLeft c.args.over.plan.now g.before s c.args.faults.now [] c.in_ok-change.field-0) own.shape.same c.in_ok-change.ensures.is) c.in_ok-push.ensures.items;
      befallen = c.in_ok-change.ensures.befallen;
    }
