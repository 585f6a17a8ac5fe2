-- The edge that is told is looked at over the network's plan.
use Rattle.std.proofs.Common.{◌∙◌, ap, sym}
use Rattle.net_base.specs.declared.plan.Plan.{Plan}
use Rattle.edge_model.specs.Ends.{end_forwards}
use Rattle.edge_model.specs.State.{EdgeState}
use Rattle.provider_edge.specs.Lists.{seen as seen_edge}
use Rattle.psn_net.specs.Carrying.{forwards_if}
use Rattle.psn_net.specs.Lists.{network_seen}
use Rattle.psn_net.proofs.parts.Parts.forwards.Goals as goal

pub returns-in-Some : goal.returns-in-Some
returns-in-Some c =
    c.end_forwards.ensures
    ∙ (ap (λ (p : Plan). end_forwards p (seen_edge c.edge_at.result.now) c.args.wire) c.edge_at.ensures.plan
    ∙ (ap (λ (e : EdgeState). end_forwards c.args.self.now.plan e c.args.wire) c.edge_at.ensures.state
    ∙ ap (forwards_if c.args.self.now.plan (network_seen c.args.self.now) c.args.wire.0) (sym c.in-Some.is)))
