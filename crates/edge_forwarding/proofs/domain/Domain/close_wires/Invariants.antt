use Rattle.std.proofs.Common.{◌≡◌, ◌&&◌, nat_lt, not, slice_get, ℕ}
use Rattle.hvpls_spokes.specs.PortSet.{holds_port}
use Rattle.hvpls_spokes.specs.Port.{is_wire}
use Rattle.edge_forwarding.proofs.domain.Domain.close_wires.Given as goal

abbrev pub invariant-loop-port : goal.invariant-loop-port
invariant-loop-port l = record {
  bridge : l.self.bridge ≡ l.fn.self.bridge;
  forwarding : (p : ℕ) → holds_port l.self.forwarding p ≡ (holds_port l.fn.self.forwarding p && not (nat_lt p l.port && is_wire (slice_get l.fn.self.bridge.ports p)));
}
