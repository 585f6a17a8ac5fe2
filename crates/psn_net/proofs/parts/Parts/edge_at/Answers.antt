use Rattle.std.proofs.Common.{◌<◌, ◌∙◌, ap, arith, length}
use Rattle.psn_net.specs.Lists.{NetLists}
use Rattle.psn_net.proofs.CarryingLemmas.{planned_at}
use Rattle.psn_net.proofs.parts.Parts.edge_at.Goals as goal

pub returns-clause-plan : goal.returns-clause-plan
returns-clause-plan c =
    let at : NetLists = record {
      plan = c.self.inside.plan;
      edges = c.self.inside.edges.items;
      pipes = c.self.inside.pipes;
      packets = c.self.inside.packets;
      entered = c.self.inside.entered;
      trace = c.self.inside.ledger;
      failed = c.self.inside.failed;
    } in
    let below : c.args.edge.0 < length at.plan.edges = omega (arith, c.requires, ap (λ (n : NetLists). length n.plan.edges) c.self.view_is) in
    planned_at at c.args.edge.0 c.index.result.now c.self.invariant below c.index.ensures ∙ ap (λ (n : NetLists). n.plan) c.self.view_is
