use Rattle.std.proofs.Common.{◌≡◌, ◌∙◌, IfOk, subst, sym}
use Rattle.net_base.specs.declared.plan.Plan.{Plan}
use Rattle.net_base.specs.plan.Accepted.{IsChecked}
use Rattle.network_model.specs.State.{empty_network}
use Rattle.psn_net.specs.Lists.{network_seen}
use Rattle.psn_net.proofs.parts.Parts.open.Goals as goal

pub with_plan-requires : goal.with_plan-requires
with_plan-requires c = subst IsChecked (sym (c.in-Ok.ensures ∙ (c.in_ok-plan.ensures.ok ∙ c.in_ok-copy.ensures))) c.requires

pub returns-in-Ok-clause-plan : goal.returns-in-Ok-clause-plan
returns-in-Ok-clause-plan c =
    subst (λ (p : Plan). IfOk c.with_plan.result (λ parts. parts.plan ≡ p)) (c.in-Ok.ensures ∙ (c.in_ok-plan.ensures.ok ∙ c.in_ok-copy.ensures)) c.with_plan.ensures.plan

pub returns-in-Ok-clause-state : goal.returns-in-Ok-clause-state
returns-in-Ok-clause-state c =
    subst (λ (p : Plan). IfOk c.with_plan.result (λ parts. network_seen parts ≡ empty_network p)) (c.in-Ok.ensures ∙ (c.in_ok-plan.ensures.ok ∙ c.in_ok-copy.ensures))
    c.with_plan.ensures.state
