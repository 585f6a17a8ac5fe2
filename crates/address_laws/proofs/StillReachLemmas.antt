-- While nothing of a network changes but addresses and packets, wires carry frames as they did, and the same circuits are behind
-- each port.
use Rattle.std.proofs.Common.{◌≡◌, ◌&&◌, ◌||◌, ◌==◌, ◌+◌, ℕ, Bool, true, false, List, [], ◌∷◌, Option, Some, None, cond, refl}
use Rattle.net_base.specs.declared.plan.Plan.{Plan}
use Rattle.net_base.specs.declared.plan.circuit_plan.CircuitPlan.{CircuitPlan}
use Rattle.net_base.specs.declared.plan.wire_plan.WirePlan.{WirePlan}
use Rattle.net_base.specs.declared.plan.places.CircuitId.{CircuitId}
use Rattle.net_base.specs.declared.plan.places.EdgeId.{EdgeId}
use Rattle.net_base.specs.declared.plan.places.ServiceId.{ServiceId}
use Rattle.net_base.specs.plan.Places.{circuit_row, wire_row}
use Rattle.net_base.specs.plan.Roles.{is_spoke_edge, is_spoke_from}
use Rattle.hvpls_spokes.specs.declared.port.Port.{Port}
use Rattle.hvpls_spokes.specs.declared.port.Port.TheVariants as port
use Rattle.network_model.specs.Calm.{carries, first_forwards, inner_stitched, is_joined_up, is_live_spoke, last_forwards}
use Rattle.network_model.specs.Reach.{beside_far, behind_spoke, behind_wire, far_of, home_among, home_of, is_circuit_of, is_home, is_live, is_row_beside, last_place, reach}
use Rattle.network_model.specs.State.{NetworkState}
use Rattle.flood_laws.specs.Copy.{IsStill}
use Rattle.flood_laws.proofs.CopyLemmas.{still_forwards, still_is_stitched}

module _ (plan : Plan) (calm network : NetworkState) (still : IsStill calm network) where
  -- ---- wires carry frames as they did

  still_first : (wire : ℕ) (path : List EdgeId) → first_forwards plan network wire path ≡ first_forwards plan calm wire path
  still_first wire [] = refl
  still_first wire (first ∷ rest) = still_forwards plan (calm.edges first.0) (network.edges first.0) (record { 0 = wire }) (still.edges first.0)

  still_last : (wire : ℕ) (path : List EdgeId) → last_forwards plan network wire path ≡ last_forwards plan calm wire path
  still_last wire [] = refl
  still_last wire (last ∷ []) = still_forwards plan (calm.edges last.0) (network.edges last.0) (record { 0 = wire }) (still.edges last.0)
  still_last wire (first ∷ next ∷ rest) = still_last wire (next ∷ rest)

  still_stitched : (wire : ℕ) (path : List EdgeId) → inner_stitched plan network wire path ≡ inner_stitched plan calm wire path
  still_stitched wire [] = refl
  still_stitched wire (last ∷ []) = refl
  still_stitched wire (point ∷ next ∷ rest) = λ i. still_is_stitched plan (calm.edges point.0) (network.edges point.0) (record { 0 = wire }) (still.edges point.0) i
      && still_stitched wire (next ∷ rest) i

  still_joined : (wire : ℕ) (path : List EdgeId) → is_joined_up plan network wire path ≡ is_joined_up plan calm wire path
  still_joined wire [] = refl
  still_joined wire (first ∷ rest) = still_stitched wire rest

  pub still_carries : (wire : ℕ) (row : WirePlan) → carries plan network wire row ≡ carries plan calm wire row
  still_carries wire row = λ i. (still_first wire row.path i && still_last wire row.path i) && still_joined wire row.path i

  -- ---- spoke edges keep their homes

  still_live_spoke : (service : ServiceId) (edge place : ℕ) (row : WirePlan)
      → is_live_spoke plan network service edge place row ≡ is_live_spoke plan calm service edge place row
  still_live_spoke service edge place row = λ i. is_spoke_from service edge row && still_carries place row i

  still_home_among : (service : ServiceId) (edge place : ℕ) (rows : List WirePlan)
      → home_among plan network service edge place rows ≡ home_among plan calm service edge place rows
  still_home_among service edge place [] = refl
  still_home_among service edge place (row ∷ rows) = λ i. cond (still_live_spoke service edge place row i) (last_place row.path) (still_home_among service edge (place + 1) rows i)

  still_home : (service : ServiceId) (edge : ℕ) → home_of plan network service edge ≡ home_of plan calm service edge
  still_home service edge = still_home_among service edge 0 plan.wires

  -- ---- and ports what is behind them

  still_row_beside : (service : ServiceId) (core : ℕ) (row : Option CircuitPlan)
      → is_row_beside plan network service core row ≡ is_row_beside plan calm service core row
  still_row_beside service core None = refl
  still_row_beside service core (Some row) = λ i. row.edge.0 == core || (is_spoke_edge plan service row.edge.0 && is_home core (still_home service row.edge.0 i))

  still_beside_far : (service : ServiceId) (far : Option ℕ) (circuit : CircuitId)
      → beside_far plan network service far circuit ≡ beside_far plan calm service far circuit
  still_beside_far service None circuit = refl
  still_beside_far service (Some core) circuit = λ i. is_circuit_of plan service circuit && still_row_beside service core (circuit_row plan circuit) i

  still_is_live : (service : ServiceId) (place : ℕ) (row : WirePlan) → is_live plan network service place row ≡ is_live plan calm service place row
  still_is_live service place row = still_live_spoke service _ place row

  still_behind : (service : ServiceId) (edge place : ℕ) (mesh : Bool) (row : Option WirePlan) (circuit : CircuitId)
      → behind_wire plan network service edge place mesh row circuit ≡ behind_wire plan calm service edge place mesh row circuit
  still_behind service edge place mesh None circuit = refl
  still_behind service edge place true (Some row) circuit = still_beside_far service (far_of edge row.path) circuit
  still_behind service edge place false (Some row) circuit = λ i. still_is_live service place row i && behind_spoke plan service edge row.path circuit

  pub still_reach : (service : ServiceId) (edge : ℕ) (x : Port) (circuit : CircuitId)
      → reach plan network service edge x circuit ≡ reach plan calm service edge x circuit
  still_reach service edge (port.Circuit at) circuit = refl
  still_reach service edge (port.Mesh wire) circuit = still_behind service edge wire.0 true (wire_row plan wire) circuit
  still_reach service edge (port.Spoke wire) circuit = still_behind service edge wire.0 false (wire_row plan wire) circuit
