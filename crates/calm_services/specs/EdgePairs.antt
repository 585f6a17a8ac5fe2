-- Sets of pairs of edges: the pair of edges a and b has the number 64 a + b, and is bit b of word a.
use Rattle.std.specs.Prelude.{◌≡◌, ◌<◌, ◌/◌, ◌%◌, ◌+◌, ◌*◌, ◌==◌, ◌&&◌, not, ℕ, Bool, List, slice_index}
use Rattle.std.specs.Int.{bit_at}
use Rattle.net_base.specs.declared.plan.Plan.{Plan}
use Rattle.net_base.specs.declared.plan.places.ServiceId.{ServiceId}
use Rattle.hvpls_spokes.specs.PortSet.{holds_port}
use Rattle.net_base.specs.plan.Roles.{any_wire, are_joined_by, has_port, is_spoke_edge}
use Rattle.net_base.specs.declared.plan.wire_plan.WirePlan.{WirePlan}
use Rattle.calm_services.specs.Calm.{meshes_where}
use Rattle.calm_services.specs.declared.service_edges.ServiceEdges.{ServiceEdges}

-- the pair with the number is in the set
abbrev pub holds_number : List ℕ → ℕ → Bool
holds_number rows number = bit_at (slice_index rows (number / 64)) (number % 64) == 1

-- the pair is in the set
abbrev pub has_pair : List ℕ → ℕ → ℕ → Bool
has_pair rows a b = holds_number rows (a * 64 + b)

-- these are the pairs of edges that the service joins
abbrev pub AreJoined : Plan → ServiceId → List ℕ → Type 0
AreJoined plan service rows = (x y : ℕ) → x < 64 → y < 64 → has_pair rows x y ≡ are_joined_by plan service x y

-- these are the pairs of edges between which a mesh wire of the service carries frames
abbrev pub AreMeshed : Plan → (ℕ → WirePlan → Bool) → ServiceId → List ℕ → Type 0
AreMeshed plan carries service rows = (x y : ℕ) → x < 64 → y < 64 → has_pair rows x y ≡ any_wire (meshes_where carries service x y) 0 plan.wires

-- these are the edges of the service
pub record AreEdgesOf (plan : Plan) (service : ServiceId) (edges : ServiceEdges) : Type 0 where
  pub ports : (e : ℕ) → e < 512 → holds_port edges.ports e ≡ has_port plan service e
  pub spokes : (e : ℕ) → e < 512 → holds_port edges.spokes e ≡ is_spoke_edge plan service e

-- the edge has a port, and starts no spoke
abbrev pub is_core_of : ServiceEdges → ℕ → Bool
is_core_of edges e = holds_port edges.ports e && not (holds_port edges.spokes e)
