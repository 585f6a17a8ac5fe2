use Rattle.std.proofs.Common.{◌≡◌, ◌&&◌, nat_lt, ℕ}
use Rattle.hvpls_spokes.specs.PortSet.{holds_port}
use Rattle.edge_forwarding.specs.Domain.{all_on, nothing_told, port_opens}
use Rattle.edge_forwarding.proofs.domain.forwarding_of.Given as goal

abbrev pub invariant-loop-port : goal.invariant-loop-port
invariant-loop-port l = (p : ℕ) → holds_port l.forwarding p ≡ (nat_lt p l.port && port_opens all_on nothing_told l.ports p)
