-- The adjacencies with the peers so far that ended are taken down.
use Rattle.std.proofs.Common.{◌≡◌, ℕ, List, length, slice_index_or, false}
use Rattle.ldp_discovery.specs.Live.{Deed, ticked}
use Rattle.ldp_discovery.specs.Histories.{AreAfter, with_deed}
use Rattle.discovery_net.proofs.LapseLemmas.{AreTaken}
use Rattle.discovery_net.proofs.discovery_net.DiscoveryNet.age.Given as goal

abbrev pub invariant-loop-place : goal.invariant-loop-place
invariant-loop-place l = record {
  plan : l.self.network.plan ≡ l.fn.self.network.plan;
  going : l.self.network.failed ≡ false;
  hellos : l.self.hellos ≡ l.fn.self.hellos;
  histories : (histories : ℕ → List Deed) → AreAfter histories l.fn.self.adjacencies → AreAfter (with_deed l.edge ticked histories) l.self.adjacencies;
  taken : AreTaken (λ p. slice_index_or l.lapsed p false) l.edge (length l.fn.self.network.plan.edges) l.place l.fn.self l.self;
}
