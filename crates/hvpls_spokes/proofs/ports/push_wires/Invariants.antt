use Rattle.std.proofs.Common.{◌≡◌, ◌++◌, drop}
use Rattle.hvpls_spokes.specs.Port.{wire_ports}
use Rattle.hvpls_spokes.proofs.ports.push_wires.Given as goal

abbrev pub invariant-loop-place : goal.invariant-loop-place
invariant-loop-place l = l.ports.items ++ wire_ports l.place (drop l.place l.wires) l.service l.edge ≡ l.fn.ports.items ++ wire_ports 0 l.wires l.service l.edge
