-- Each part of the edge is forgotten.
use Rattle.std.proofs.Common.{◌≡◌, ◌∙◌, [], None, true, ap, subst}
use Rattle.edge_model.specs.Labels.{keeping_all}
use Rattle.edge_model.specs.State.{with_learned, without_ends, without_peerings}
use Rattle.provider_edge.specs.contracts.edge.Edge.{the_view}
use Rattle.provider_edge.proofs.EdgeLemmas.{restart_done}
use Rattle.provider_edge.proofs.RestartLemmas.{restart_holds, restart_seen}
use Rattle.provider_edge.specs.Lists.{EdgeLists, seen}
use Rattle.provider_edge.proofs.edge.Edge.restart.Goals as goal

pub invariant_of-self : goal.invariant_of-self
invariant_of-self c =
    let v : EdgeLists = the_view c.self.inside in
    let working : v.stopped ≡ true = ap (λ (e : EdgeLists). e.stopped) c.self.view_is ∙ c.requires.working in
    restart_holds v c.clear.new.self c.restarted.new.self c.forget_pings.new.pings.items c.clear-2.new.self c.close_wires.new.self c.clear-3.new.self working c.self.invariant (record {
      peerings = c.clear.ensures;
      places = c.restarted.ensures.places;
      ends = c.restarted.ensures.seen;
      next = c.restarted.ensures.next;
      labels = c.restarted.ensures.kept;
      pings = c.forget_pings.ensures;
      spokes = c.clear-2.ensures;
      closes = c.close_wires.ensures.keeps;
      untold = c.close_wires.ensures.step;
      clears = c.clear-3.ensures.keeps;
      unlearned = c.clear-3.ensures.step;
    })

pub returns-clause-step : goal.returns-clause-step
returns-clause-step c = λ calls.
    let v : EdgeLists = the_view c.self.inside in
    let working : v.stopped ≡ true = ap (λ (e : EdgeLists). e.stopped) c.self.view_is ∙ c.requires.working in
    let now : EdgeLists = record v {
      peerings = c.clear.new.self;
      ends = c.restarted.new.self;
      pings = c.forget_pings.new.pings.items;
      spokes = c.clear-2.new.self;
      forwarding = c.clear-3.new.self;
      marks = None;
    } in
    restart_done c.args.self.now now calls
    (subst (λ (n : EdgeLists). seen now ≡ with_learned (λ service. []) (without_ends (keeping_all (without_peerings (seen n))))) c.self.view_is
    (restart_seen v c.clear.new.self c.restarted.new.self c.forget_pings.new.pings.items c.clear-2.new.self c.close_wires.new.self c.clear-3.new.self working c.self.invariant (record {
      peerings = c.clear.ensures;
      places = c.restarted.ensures.places;
      ends = c.restarted.ensures.seen;
      next = c.restarted.ensures.next;
      labels = c.restarted.ensures.kept;
      pings = c.forget_pings.ensures;
      spokes = c.clear-2.ensures;
      closes = c.close_wires.ensures.keeps;
      untold = c.close_wires.ensures.step;
      clears = c.clear-3.ensures.keeps;
      unlearned = c.clear-3.ensures.step;
    })))
