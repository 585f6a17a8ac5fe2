-- Where a MAC withdraw goes on from an edge (RFC 4762 section 6.2): it clears what the other edges have learned, and split
-- horizon holds for it as for frames.
use Rattle.std.specs.Prelude.{◌==◌, ◌&&◌, not, ℕ, Bool, false, List, slice_get}
use Rattle.hvpls_spokes.specs.declared.edge_role.Role.{Role}
use Rattle.hvpls_spokes.specs.declared.edge_role.Role.TheVariants as role
use Rattle.hvpls_spokes.specs.declared.port.Port.{Port}
use Rattle.hvpls_spokes.specs.Port.{is_mesh_port, is_wire}

-- the port with this number is a wire, a mesh wire or a spoke
abbrev pub is_wire_at : List Port → ℕ → Bool
is_wire_at ports p = is_wire (slice_get ports p)

-- a port by which an edge passes on what came by the port `from`: a core edge from a spoke by all other wires, and from a mesh
-- wire by all spokes; a spoke edge passes nothing on
abbrev pub is_passed_to : Role → List Port → ℕ → ℕ → Bool
is_passed_to role.SpokeEdge ports from p = false
is_passed_to role.Core ports from p =
    (is_wire_at ports p && not (p == from)) && not (is_mesh_port ports from && is_mesh_port ports p)
