use Rattle.std.proofs.Common.{◌≡◌, ◌&&◌, not, nat_lt, ℕ}
use Rattle.hvpls_spokes.specs.PortSet.{holds_port}
use Rattle.hvpls_spokes.specs.Port.{is_mesh_port}
use Rattle.hvpls_spokes.proofs.flood.without_mesh.Given as goal

abbrev pub invariant-loop-port : goal.invariant-loop-port
invariant-loop-port l = (p : ℕ) → holds_port l.rest p ≡ (holds_port l.fn.set p && not (nat_lt p l.port && is_mesh_port l.ports p))
