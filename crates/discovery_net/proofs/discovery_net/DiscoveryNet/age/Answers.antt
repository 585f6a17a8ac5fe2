-- One more peer is passed, or taken down where its adjacency lapsed; at the end, or where the network stops, what was done are the lapses.
use Rattle.std.proofs.Common.{◌∙◌, List, length, slice_index_or, refl, ap, sym, subst, arith, false}
use Rattle.std.proofs.lemmas.Result.{err_from_is_err_and}
use Rattle.ldp_discovery.specs.Adjacencies.{AdjacencyLists}
use Rattle.ldp_discovery.specs.Live.{ticked}
use Rattle.ldp_discovery.specs.Histories.{AreAfter, ends_by_tick, with_deed}
use Rattle.discovery_net.specs.Lists.{DiscoveryLists}
use Rattle.discovery_net.proofs.LapseLemmas.{taken_all, taken_next, taken_passed, taken_stopped}
use Rattle.discovery_net.proofs.discovery_net.DiscoveryNet.age.Goals as goal
use Rattle.discovery_net.proofs.discovery_net.DiscoveryNet.age.Goals.{then-contains+in_ok-take_down, else-contains}

pub returns-in_err-take_down-clause-downs : goal.returns-in_err-take_down-clause-downs
returns-in_err-take_down-clause-downs c = λ histories are.
    let p = err_from_is_err_and c.from_residual.result c.from_residual.ensures.1 in
    rw (p.1, p.2) (taken_stopped (λ p. slice_index_or c.tick-lapsed.result p false) (ends_by_tick (histories c.args.edge.0)) c.args.edge (record { 0 = c.loop-place.place })
    (length c.args.self.now.network.plan.edges) c.loop-place.place
    c.args.self.now c.loop-place.self c.take_down.new.self c.in_err-take_down.field-0.0
    (omega (arith, c.loop-place-test.true, c.count-place-end.ensures.count, ap (λ (n : DiscoveryLists). length n.network.plan.edges) c.self.view_is)) refl (sym c.contains.ensures ∙ c.if-contains.true)
    (λ p below. c.tick-lapsed.ensures.lapsed histories p (subst (λ (n : DiscoveryLists). AreAfter histories n.adjacencies) (sym c.self.view_is) are)
    (omega (arith, below, c.self.invariant.edges.count, ap (λ (n : DiscoveryLists). length n.network.plan.edges) c.self.view_is))) c.loop-place.invariant.taken c.in_err-take_down.ensures.downs)

pub loop-place-preserved : goal.loop-place-preserved
loop-place-preserved c = elim c.if-contains.branch [
  | then-contains+in_ok-take_down w ↦ rw w.self-is (record {
    plan = w.in_ok-take_down.ensures.plan ∙ c.loop-place.invariant.plan;
    going = w.in_ok-take_down.ensures.going;
    hellos = w.in_ok-take_down.ensures.hellos ∙ c.loop-place.invariant.hellos;
    histories = λ histories are. subst (λ (all : List AdjacencyLists). AreAfter (with_deed c.args.edge ticked histories) all) (sym w.in_ok-take_down.ensures.adjacencies)
        (c.loop-place.invariant.histories histories are);
    taken = taken_next (λ p. slice_index_or c.tick-lapsed.result p false) c.args.edge (record { 0 = c.loop-place.place }) (length c.args.self.now.network.plan.edges) c.loop-place.place
        c.args.self.now c.loop-place.self w.take_down.new.self
        (omega (arith, c.loop-place-test.true, c.count-place-end.ensures.count, ap (λ (n : DiscoveryLists). length n.network.plan.edges) c.self.view_is)) refl
        (sym c.contains.ensures ∙ w.if-contains.true) c.loop-place.invariant.taken w.in_ok-take_down.ensures.downs;
  })
  | else-contains w ↦ rw w.self-is (record {
    plan = c.loop-place.invariant.plan;
    going = c.loop-place.invariant.going;
    hellos = c.loop-place.invariant.hellos;
    histories = c.loop-place.invariant.histories;
    taken = taken_passed (λ p. slice_index_or c.tick-lapsed.result p false) c.args.edge (length c.args.self.now.network.plan.edges) c.loop-place.place c.args.self.now c.loop-place.self
        (omega (arith, c.loop-place-test.true, c.count-place-end.ensures.count, ap (λ (n : DiscoveryLists). length n.network.plan.edges) c.self.view_is))
        (sym c.contains.ensures ∙ w.if-contains.false) c.loop-place.invariant.taken;
  })
]

pub returns-clause-downs : goal.returns-clause-downs
returns-clause-downs c = λ histories are.
    taken_all (λ p. slice_index_or c.tick-lapsed.result p false) (ends_by_tick (histories c.args.edge.0)) c.args.edge
    (length c.args.self.now.network.plan.edges) c.loop-place.place c.args.self.now c.loop-place.self
    (omega (arith, c.loop-place-test.false, c.count-place-end.ensures.count, ap (λ (n : DiscoveryLists). length n.network.plan.edges) c.self.view_is))
    (λ p below. c.tick-lapsed.ensures.lapsed histories p (subst (λ (n : DiscoveryLists). AreAfter histories n.adjacencies) (sym c.self.view_is) are)
    (omega (arith, below, c.self.invariant.edges.count, ap (λ (n : DiscoveryLists). length n.network.plan.edges) c.self.view_is))) c.loop-place.invariant.taken
