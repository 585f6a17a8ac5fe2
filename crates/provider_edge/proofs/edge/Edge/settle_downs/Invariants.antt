use Rattle.std.proofs.Common.{◌≡◌, List, drop}
use Rattle.net_base.specs.declared.outside.link_call.LinkCall.{LinkCall}
use Rattle.edge_model.specs.EndPlaces.{end_places}
use Rattle.peer_dialogue.specs.Peering.{at_edge}
use Rattle.provider_edge.proofs.MendLemmas.{settles_downs}
use Rattle.provider_edge.specs.Lists.{Keeps, seen}
use Rattle.provider_edge.proofs.edge.Edge.settle_downs.Given as goal

abbrev pub invariant-loop-slot : goal.invariant-loop-slot
invariant-loop-slot l = record {
  keeps : Keeps l.fn.self l.self;
  places : l.fn.self.ends.places ≡ end_places l.fn.self.plan l.fn.self.me;
  step : (calls : List LinkCall)
      → settles_downs l.fn.self.plan (end_places l.fn.self.plan l.fn.self.me) (at_edge (seen l.fn.self) calls l.fn.out)
      ≡ settles_downs l.fn.self.plan (drop l.slot (end_places l.fn.self.plan l.fn.self.me)) (at_edge (seen l.self) calls l.out);
}
