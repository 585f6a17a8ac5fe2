-- One more service has its choice. At the end all have: for services past those of the plan the edge has chosen what it would choose.
use Rattle.std.proofs.Common.{ap, refl, arith}
use Rattle.net_base.specs.declared.plan.Plan.{Plan}
use Rattle.edge_model.specs.Spokes.{choice}
use Rattle.provider_edge.proofs.ListLemmas.{keeps_both}
use Rattle.provider_edge.proofs.SpokeLemmas.{chosen_all, chosen_more, chosen_none}
use Rattle.provider_edge.specs.Lists.{seen}
use Rattle.provider_edge.proofs.edge.Edge.choose_spokes.Goals as goal

pub loop-service-init : goal.loop-service-init
loop-service-init c = record {
  keeps = record { plan = refl; me = refl; places = refl; count = refl; stopped = refl };
  step = chosen_none c.args.self.now.plan (seen c.args.self.now);
}

pub loop-service-preserved : goal.loop-service-preserved
loop-service-preserved c = record {
  keeps = keeps_both _ _ _ c.loop-service.invariant.keeps c.choose_spoke.ensures.keeps;
  step =
      chosen_more c.args.self.now.plan c.loop-service.service (seen c.args.self.now) (seen c.loop-service.self) (seen c.choose_spoke.new.self)
      (choice c.loop-service.self.plan (seen c.loop-service.self) (record { 0 = c.loop-service.service }))
      (c.loop-service.invariant.step)
      (ap (λ (p : Plan). choice p (seen c.loop-service.self) (record { 0 = c.loop-service.service })) c.loop-service.invariant.keeps.plan)
      (c.choose_spoke.ensures.step);
}

pub returns-clause-step : goal.returns-clause-step
returns-clause-step c =
    chosen_all c.args.self.now.plan c.loop-service.service (seen c.args.self.now) (seen c.loop-service.self)
    (λ service above. c.count_services-service-end.ensures.past service (omega (arith, above, c.loop-service-test.false, c.count_services-service-end.ensures.count))) (c.loop-service.invariant.step)
