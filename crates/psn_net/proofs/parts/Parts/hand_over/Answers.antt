-- The receiver is over the network's plan, so its step on the front of the pipe and its effects are those of the network's edge. It keeps
-- its plan and place, so the invariant stands.
use Rattle.std.proofs.Common.{◌<◌, [], length, slice_set, take, ap, subst, arith}
use Rattle.std.proofs.lemmas.Result.{IfOk-weaker}
use Rattle.edge_model.specs.declared.input.Input.TheVariants.{Octets}
use Rattle.edge_model.specs.Step.{edge_step}
use Rattle.edge_model.specs.Work.{beginning}
use Rattle.network_model.specs.Absorb.{taken_all}
use Rattle.network_model.specs.Connection.{hearing_work}
use Rattle.provider_edge.specs.Lists.{seen}
use Rattle.provider_edge.specs.Said.{AllFit}
use Rattle.psn_net.specs.Lists.{HasDriven, NetLists, network_seen}
use Rattle.psn_net.specs.Working.{HasWorked}
use Rattle.psn_net.proofs.ConnectionLemmas.{hearing}
use Rattle.psn_net.proofs.NetworkLemmas.{driving_at, edge_kept, fitting_at}
use Rattle.psn_net.proofs.parts.Parts.hand_over.Goals as goal

pub returns-clause-driven : goal.returns-clause-driven
returns-clause-driven c =
    let below : c.args.to.0 < length c.self.inside.edges.items =
    omega (arith, c.requires.to, ap (λ (n : NetLists). length n.plan.edges) c.self.view_is, c.self.invariant.count) in
    let before : NetLists = record {
      plan = c.self.inside.plan;
      edges = c.self.inside.edges.items;
      pipes = c.self.inside.pipes;
      packets = c.self.inside.packets;
      entered = c.self.inside.entered;
      trace = c.self.inside.ledger;
      failed = c.self.inside.failed;
    } in
    let found = c.index_mut.result.now in
    let old : NetLists = c.args.self.now in
    let now : NetLists = record before { edges = slice_set before.edges c.args.to.0 c.work_of.new.edge } in
    IfOk-weaker c.work_of.result (HasWorked c.work_of.new.edge (edge_step found.plan taken_all (Octets c.args.from c.front-bytes.result) (beginning (seen found) [])))
    (HasDriven c.args.to old now (hearing_work old.plan (network_seen old) c.args.from c.args.to (take c.args.count ((network_seen old).pipes c.args.from.0 c.args.to.0)))) (λ effects did.
    subst (λ (n : NetLists). HasDriven c.args.to n now
    (hearing_work n.plan (network_seen n) c.args.from c.args.to (take c.args.count ((network_seen n).pipes c.args.from.0 c.args.to.0))) effects) c.self.view_is
    (hearing before now c.args.from c.args.to c.args.count c.front-bytes.result.now effects c.front-bytes.ensures
    (driving_at before c.args.to found c.work_of.new.edge (Octets c.args.from c.front-bytes.result) effects below (c.self.invariant.planned c.args.to.0 below) c.index_mut.ensures.value did)))
    c.work_of.ensures.worked

pub returns-clause-fit : goal.returns-clause-fit
returns-clause-fit c =
    let below : c.args.to.0 < length c.self.inside.edges.items =
    omega (arith, c.requires.to, ap (λ (n : NetLists). length n.plan.edges) c.self.view_is, c.self.invariant.count) in
    let before : NetLists = record {
      plan = c.self.inside.plan;
      edges = c.self.inside.edges.items;
      pipes = c.self.inside.pipes;
      packets = c.self.inside.packets;
      entered = c.self.inside.entered;
      trace = c.self.inside.ledger;
      failed = c.self.inside.failed;
    } in
    IfOk-weaker c.work_of.result (λ effects. AllFit c.index_mut.result.now.plan effects.list) (λ effects. AllFit c.args.self.now.plan effects.list) (λ effects fit.
    subst (λ (n : NetLists). AllFit n.plan effects.list) c.self.view_is
    (fitting_at before c.args.to c.index_mut.result.now effects.list below (c.self.invariant.planned c.args.to.0 below) c.index_mut.ensures.value fit)) c.work_of.ensures.fit

pub invariant_of-self : goal.invariant_of-self
invariant_of-self c =
    let below : c.args.to.0 < length c.self.inside.edges.items =
    omega (arith, c.requires.to, ap (λ (n : NetLists). length n.plan.edges) c.self.view_is, c.self.invariant.count) in
    let before : NetLists = record {
      plan = c.self.inside.plan;
      edges = c.self.inside.edges.items;
      pipes = c.self.inside.pipes;
      packets = c.self.inside.packets;
      entered = c.self.inside.entered;
      trace = c.self.inside.ledger;
      failed = c.self.inside.failed;
    } in
    edge_kept before c.args.to c.index_mut.result.now c.work_of.new.edge c.self.invariant below c.index_mut.ensures.value c.work_of.ensures.plan c.work_of.ensures.me
