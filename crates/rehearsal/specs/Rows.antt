-- The network of a rehearsal: eight core edges in a full mesh, eight spoke edges with two spokes each, and a circuit of one service
-- at every edge (RFC 4762 sections 4.4 and 10.1).
use Rattle.std.specs.Prelude.{◌+◌, ◌-◌, ◌*◌, ◌%◌, ◌++◌, codes, ℕ, zero, suc, Bool, List, [], ◌∷◌, Some, None}
use Rattle.std.specs.Fmt.{decimal}
use Rattle.net_base.specs.declared.plan.Plan.{Plan}
use Rattle.net_base.specs.declared.plan.edge_plan.EdgePlan.{EdgePlan}
use Rattle.net_base.specs.declared.plan.service_plan.ServicePlan.{ServicePlan}
use Rattle.net_base.specs.declared.plan.circuit_plan.CircuitPlan.{CircuitPlan}
use Rattle.net_base.specs.declared.plan.wire_plan.WirePlan.{WirePlan}
use Rattle.net_base.specs.declared.plan.wire_plan.Class.TheVariants.{Mesh, Spoke}
use Rattle.net_base.specs.declared.plan.offer.Offer.{Offer}
use Rattle.rehearsal.specs.declared.rehearsed_wire.RehearsedWire.{RehearsedWire}

-- edges are numbered from 1: edge 1 is `e1`, at 10.0.0.1
abbrev pub edge_row : ℕ → EdgePlan
edge_row number = record { name = codes "e" ++ decimal number; address = record { 0 = 10 ∷ 0 ∷ 0 ∷ number ∷ [] }; first_label = 16; keepalive = 180; max_pdu = 4096 }

-- so many edges, from this number on
abbrev pub edges_from : ℕ → ℕ → List EdgePlan
edges_from zero number = []
edges_from (suc count) number = edge_row number ∷ edges_from count (number + 1)

-- the one service
abbrev pub rehearsed_service : ServicePlan
rehearsed_service = record { name = codes "s"; mtu = 1500; age = 300 }

-- the circuit at an edge, which has its number
abbrev pub rehearsed_circuit : ℕ → CircuitPlan
rehearsed_circuit number = record { name = codes "c" ++ decimal number; edge = record { 0 = number - 1 }; service = record { 0 = 0 }; tag = None }

-- so many circuits, from this number on
abbrev pub circuits_from : ℕ → ℕ → List CircuitPlan
circuits_from zero number = []
circuits_from (suc count) number = rehearsed_circuit number ∷ circuits_from count (number + 1)

-- what every wire offers at both ends: raw mode with a control word, the MTU of the service, and statuses
abbrev pub offer : Offer
offer = record { tagged = Bool.false; cword = Bool.true; mtu = Some 1500; vlan = None; vccv = None; status = Bool.true; group = 0; description = [] }

-- a wire with a name, between two edges, of one segment
abbrev pub rehearsed_wire : List ℕ → RehearsedWire → WirePlan
rehearsed_wire name link = record {
  name = name;
  service = record { 0 = 0 };
  class = link.class;
  path = record { 0 = link.from - 1 } ∷ record { 0 = link.to - 1 } ∷ [];
  pw_id = link.pw_id;
  near = offer;
  far = offer;
  priority = link.priority;
}

-- mesh wires are numbered from 1: wire 1 is `m1`, of PW ID 101
abbrev pub mesh_wire : ℕ → ℕ → ℕ → WirePlan
mesh_wire from to number = rehearsed_wire (codes "m" ++ decimal number) (record { class = Mesh; from = from; to = to; pw_id = 100 + number; priority = 100 })

-- the mesh wires from an edge to so many edges, the first of which is `to`; the first wire has this number
abbrev pub mesh_beside : ℕ → ℕ → ℕ → ℕ → List WirePlan
mesh_beside zero from to number = []
mesh_beside (suc count) from to number = mesh_wire from to number ∷ mesh_beside count from (to + 1) (number + 1)

-- the mesh wires among so many edges, the first of which is `from`, in the order of both numbers
abbrev pub mesh_among : ℕ → ℕ → ℕ → List WirePlan
mesh_among zero from number = []
mesh_among (suc count) from number = mesh_beside count from (from + 1) number ++ mesh_among count (from + 1) (number + count)

-- the two spokes of spoke edge 9 + place: `p` to the core edge eight numbers before it, which is used first, and `q` to the one after
-- that, where the first one stands behind the last one
abbrev pub first_spoke : ℕ → WirePlan
first_spoke place = rehearsed_wire (codes "p" ++ decimal (place + 9)) (record { class = Spoke; from = place + 9; to = place + 1; pw_id = 201 + 2 * place; priority = 10 })

abbrev pub second_spoke : ℕ → WirePlan
second_spoke place = rehearsed_wire (codes "q" ++ decimal (place + 9)) (record { class = Spoke; from = place + 9; to = (place + 1) % 8 + 1; pw_id = 202 + 2 * place; priority = 20 })

-- the spokes of so many spoke edges, from this place on
abbrev pub spokes_from : ℕ → ℕ → List WirePlan
spokes_from zero place = []
spokes_from (suc count) place = first_spoke place ∷ second_spoke place ∷ spokes_from count (place + 1)

-- all wires: the full mesh of the core edges, and then the spokes
unfoldable pub wires : List WirePlan
wires = mesh_among 8 1 1 ++ spokes_from 8 0

-- the whole network
unfoldable pub plan : Plan
plan = record { edges = edges_from 16 1; services = rehearsed_service ∷ []; circuits = circuits_from 16 1; wires = wires }
