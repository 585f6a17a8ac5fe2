-- The edges so far have counted their tick.
use Rattle.std.proofs.Common.{◌≡◌, ℕ, List, length, false}
use Rattle.ldp_discovery.specs.Live.{Deed}
use Rattle.ldp_discovery.specs.Histories.{AreAfter}
use Rattle.discovery_net.proofs.LapseLemmas.{AreAged, ticked_below}
use Rattle.discovery_net.proofs.discovery_net.DiscoveryNet.tick.Given as goal

abbrev pub invariant-loop-place : goal.invariant-loop-place
invariant-loop-place l = record {
  plan : l.self.network.plan ≡ l.fn.self.network.plan;
  going : l.self.network.failed ≡ false;
  hellos : l.self.hellos ≡ l.fn.self.hellos;
  histories : (histories : ℕ → List Deed) → AreAfter histories l.fn.self.adjacencies → AreAfter (ticked_below l.place histories) l.self.adjacencies;
  aged : (histories : ℕ → List Deed) → AreAfter histories l.fn.self.adjacencies → AreAged histories (length l.fn.self.network.plan.edges) l.place l.fn.self l.self;
}
