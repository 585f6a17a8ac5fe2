use Rattle.std.proofs.Common.{◌≡◌, ◌++◌, drop}
use Rattle.hvpls_spokes.specs.Port.{circuit_ports}
use Rattle.hvpls_spokes.proofs.ports.push_circuits.Given as goal

abbrev pub invariant-loop-place : goal.invariant-loop-place
invariant-loop-place l = l.ports.items ++ circuit_ports l.place (drop l.place l.circuits) l.service l.edge ≡ l.fn.ports.items ++ circuit_ports 0 l.circuits l.service l.edge
