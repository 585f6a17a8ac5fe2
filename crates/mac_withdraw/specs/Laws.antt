-- Split horizon for what an edge passes on (RFC 4762 sections 4.4 and 6.2).
use Rattle.std.specs.Prelude.{◌≡◌, ◌≢◌, ◌&&◌, ℕ, true, false, List, Some, slice_get}
use Rattle.net_base.specs.declared.plan.places.WireId.{WireId}
use Rattle.hvpls_spokes.specs.declared.edge_role.Role.{Role}
use Rattle.hvpls_spokes.specs.declared.edge_role.Role.TheVariants as role
use Rattle.hvpls_spokes.specs.declared.port.Port.{Port}
use Rattle.hvpls_spokes.specs.declared.port.Port.TheVariants as port
use Rattle.hvpls_spokes.specs.Port.{is_mesh_port}
use Rattle.mac_withdraw.specs.Passing.{is_passed_to, is_wire_at}

-- By which ports an edge passes on what came by the port `from`.
pub record PassesByHorizon : Type 0 where
  -- a core edge passes on what came by a spoke by each mesh wire
  pub spoke_to_mesh : (ports : List Port) (from p : ℕ) (wire other : WireId) → slice_get ports from ≡ Some (port.Spoke wire) → slice_get ports p ≡ Some (port.Mesh other)
      → is_passed_to role.Core ports from p ≡ true
  -- and by each other spoke
  pub spoke_to_spoke : (ports : List Port) (from p : ℕ) (wire other : WireId) → slice_get ports from ≡ Some (port.Spoke wire) → slice_get ports p ≡ Some (port.Spoke other) → p ≢ from
      → is_passed_to role.Core ports from p ≡ true
  -- and what came by a mesh wire by each spoke
  pub mesh_to_spoke : (ports : List Port) (from p : ℕ) (wire other : WireId) → slice_get ports from ≡ Some (port.Mesh wire) → slice_get ports p ≡ Some (port.Spoke other)
      → is_passed_to role.Core ports from p ≡ true
  -- never by a circuit or by no port, back by the port that it came by, or from mesh wire to mesh wire
  pub wires_alone : (role : Role) (ports : List Port) (from p : ℕ) → is_passed_to role ports from p ≡ true → is_wire_at ports p ≡ true
  pub not_back : (role : Role) (ports : List Port) (from p : ℕ) → is_passed_to role ports from p ≡ true → p ≢ from
  pub not_mesh_to_mesh : (role : Role) (ports : List Port) (from p : ℕ) → is_passed_to role ports from p ≡ true → is_mesh_port ports from && is_mesh_port ports p ≡ false
  -- a spoke edge passes nothing on
  pub ends_at_spoke_edges : (ports : List Port) (from p : ℕ) → is_passed_to role.SpokeEdge ports from p ≡ false
