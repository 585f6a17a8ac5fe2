-- The edge at this place is over the network's plan, so its step and its effects are those of the network's edge. It keeps its plan and
-- place, so the invariant stands.
use Rattle.std.proofs.Common.{◌<◌, [], length, slice_set, ap, subst, arith}
use Rattle.std.proofs.lemmas.Result.{IfOk-weaker}
use Rattle.edge_model.specs.Step.{edge_step}
use Rattle.edge_model.specs.Work.{beginning}
use Rattle.network_model.specs.Absorb.{begin_at, taken_all}
use Rattle.provider_edge.specs.Lists.{seen}
use Rattle.provider_edge.specs.Said.{AllFit}
use Rattle.psn_net.specs.Lists.{HasDriven, NetLists, network_seen}
use Rattle.psn_net.specs.Working.{HasWorked}
use Rattle.psn_net.proofs.NetworkLemmas.{driving_at, edge_kept, fitting_at}
use Rattle.psn_net.proofs.parts.Parts.drive.Goals as goal

pub returns-clause-driven : goal.returns-clause-driven
returns-clause-driven c =
    let below : c.args.me.0 < length c.self.inside.edges.items =
    omega (arith, c.requires.me, ap (λ (n : NetLists). length n.plan.edges) c.self.view_is, c.self.invariant.count) in
    let before : NetLists = record {
      plan = c.self.inside.plan;
      edges = c.self.inside.edges.items;
      pipes = c.self.inside.pipes;
      packets = c.self.inside.packets;
      entered = c.self.inside.entered;
      trace = c.self.inside.ledger;
      failed = c.self.inside.failed;
    } in
    let found = c.index_mut.result.now in
    let now : NetLists = record before { edges = slice_set before.edges c.args.me.0 c.work_of.new.edge } in
    IfOk-weaker c.work_of.result (HasWorked c.work_of.new.edge (edge_step found.plan taken_all c.args.input (beginning (seen found) [])))
    (HasDriven c.args.me c.args.self.now now (edge_step c.args.self.now.plan taken_all c.args.input (begin_at (network_seen c.args.self.now) c.args.me))) (λ effects did.
    subst (λ (n : NetLists). HasDriven c.args.me n now (edge_step n.plan taken_all c.args.input (begin_at (network_seen n) c.args.me)) effects) c.self.view_is
    (driving_at before c.args.me found c.work_of.new.edge c.args.input effects below (c.self.invariant.planned c.args.me.0 below) c.index_mut.ensures.value did)) c.work_of.ensures.worked

pub returns-clause-fit : goal.returns-clause-fit
returns-clause-fit c =
    let below : c.args.me.0 < length c.self.inside.edges.items =
    omega (arith, c.requires.me, ap (λ (n : NetLists). length n.plan.edges) c.self.view_is, c.self.invariant.count) in
    let before : NetLists = record {
      plan = c.self.inside.plan;
      edges = c.self.inside.edges.items;
      pipes = c.self.inside.pipes;
      packets = c.self.inside.packets;
      entered = c.self.inside.entered;
      trace = c.self.inside.ledger;
      failed = c.self.inside.failed;
    } in
    IfOk-weaker c.work_of.result (λ effects. AllFit c.index_mut.result.now.plan effects.list) (λ effects. AllFit c.args.self.now.plan effects.list) (λ effects fit.
    subst (λ (n : NetLists). AllFit n.plan effects.list) c.self.view_is
    (fitting_at before c.args.me c.index_mut.result.now effects.list below (c.self.invariant.planned c.args.me.0 below) c.index_mut.ensures.value fit)) c.work_of.ensures.fit

pub invariant_of-self : goal.invariant_of-self
invariant_of-self c =
    let below : c.args.me.0 < length c.self.inside.edges.items =
    omega (arith, c.requires.me, ap (λ (n : NetLists). length n.plan.edges) c.self.view_is, c.self.invariant.count) in
    let before : NetLists = record {
      plan = c.self.inside.plan;
      edges = c.self.inside.edges.items;
      pipes = c.self.inside.pipes;
      packets = c.self.inside.packets;
      entered = c.self.inside.entered;
      trace = c.self.inside.ledger;
      failed = c.self.inside.failed;
    } in
    edge_kept before c.args.me c.index_mut.result.now c.work_of.new.edge c.self.invariant below c.index_mut.ensures.value c.work_of.ensures.plan c.work_of.ensures.me
