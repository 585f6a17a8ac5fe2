-- The adjacencies of one more edge have aged; behind all of them the network has its tick. Where the network stops at one, the acts of the
-- line halt there.
use Rattle.std.proofs.Common.{◌∙◌, ℕ, List, length, ap, refl, sym, subst, arith}
use Rattle.std.proofs.lemmas.Result.{err_from_is_err_and}
use Rattle.net_base.specs.declared.plan.Plan.{Plan}
use Rattle.ldp_discovery.specs.Adjacencies.{AdjacencyLists}
use Rattle.ldp_discovery.specs.Histories.{AreAfter}
use Rattle.discovery_net.specs.Lists.{DiscoveryLists}
use Rattle.discovery_net.proofs.LapseLemmas.{aged_next, aged_stopped, tick_acts_of, tick_after, ticked_below, ticked_next}
use Rattle.discovery_net.proofs.discovery_net.DiscoveryNet.tick.Goals as goal

pub loop-place-preserved : goal.loop-place-preserved
loop-place-preserved c =
    let place : ℕ = c.loop-place.place in
    record {
      plan = c.in_ok-age.ensures.plan ∙ c.loop-place.invariant.plan;
      going = c.in_ok-age.ensures.going;
      hellos = c.in_ok-age.ensures.hellos ∙ c.loop-place.invariant.hellos;
      histories = λ histories are. ticked_next histories (record { 0 = place }) place c.age.new.self.adjacencies refl
          (c.in_ok-age.ensures.histories (ticked_below place histories) (c.loop-place.invariant.histories histories are));
      aged = λ histories are. aged_next histories (record { 0 = place }) (length c.args.self.now.network.plan.edges) place c.args.self.now c.loop-place.self c.age.new.self
          (omega (arith, c.loop-place-test.true, c.count-place-end.ensures.count, ap (λ (n : DiscoveryLists). length n.network.plan.edges) c.self.view_is)) refl
          (ap (λ (p : Plan). length p.edges) c.loop-place.invariant.plan) (c.loop-place.invariant.aged histories are)
          (c.in_ok-age.ensures.downs (ticked_below place histories) (c.loop-place.invariant.histories histories are));
    }

pub returns-in_err-age-clause-acts : goal.returns-in_err-age-clause-acts
returns-in_err-age-clause-acts c = λ d at.
    let place : ℕ = c.loop-place.place in
    let p = err_from_is_err_and c.from_residual.result c.from_residual.ensures.1 in
    rw (p.1, p.2) (aged_stopped d (record { 0 = place }) place c.args.self.now c.loop-place.self c.age.new.self c.in_err-age.field-0.0 at
    (omega (arith, c.loop-place-test.true, c.count-place-end.ensures.count, ap (λ (n : DiscoveryLists). length n.network.plan.edges) c.self.view_is)) refl c.loop-place.invariant.plan
    (c.loop-place.invariant.aged d.histories at.histories) (c.in_err-age.ensures.downs (ticked_below place d.histories) (c.loop-place.invariant.histories d.histories at.histories)))

pub returns-clause-acts : goal.returns-clause-acts
returns-clause-acts c = λ d at.
    tick_acts_of c.apply.result d c.loop-place.place c.args.self.now c.loop-place.self c.apply.new.self at
    (omega (arith, c.loop-place-test.false, c.count-place-end.ensures.count, ap (λ (n : DiscoveryLists). length n.network.plan.edges) c.self.view_is))
    (c.loop-place.invariant.aged d.histories at.histories) c.apply.ensures.acts

pub returns-clause-after : goal.returns-clause-after
returns-clause-after c = λ d at.
    tick_after c.apply.result d c.loop-place.place c.args.self.now c.apply.new.self at
    (omega (
      arith,
      c.loop-place-test.false,
      c.count-place-end.ensures.count,
      ap (λ (n : DiscoveryLists). length n.network.plan.edges) c.self.view_is,
      c.apply.ensures.count,
      ap (λ (p : Plan). length p.edges) c.loop-place.invariant.plan,
    )) (c.apply.ensures.plan ∙ c.loop-place.invariant.plan) (c.apply.ensures.hellos ∙ c.loop-place.invariant.hellos)
    (subst (λ (all : List AdjacencyLists). AreAfter (ticked_below c.loop-place.place d.histories) all) (sym c.apply.ensures.adjacencies) (c.loop-place.invariant.histories d.histories at.histories))
    (tick_acts_of c.apply.result d c.loop-place.place c.args.self.now c.loop-place.self c.apply.new.self at
    (omega (arith, c.loop-place-test.false, c.count-place-end.ensures.count, ap (λ (n : DiscoveryLists). length n.network.plan.edges) c.self.view_is))
    (c.loop-place.invariant.aged d.histories at.histories) c.apply.ensures.acts)
