use Rattle.std.proofs.Common.{◌≡◌, length}
use Rattle.seen_network.specs.Seen.{cut}
use Rattle.seen_state.proofs.peer_end.PeerEnd.cut_pdus.Given as goal

abbrev pub invariant-cutting : goal.invariant-cutting
invariant-cutting l = record {
  others : l.self ≡ record l.fn.self { rest = l.self.rest };
  cuts : cut l.self.rest ≡ cut l.fn.self.rest;
}

abbrev pub decreases-cutting : goal.decreases-cutting
decreases-cutting l = length l.self.rest
