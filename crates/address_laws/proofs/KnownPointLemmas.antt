-- In a stretch the port that a bridge knows for a station once it has heard a frame leads to the station's site.
use Rattle.std.proofs.Common.{◌≡◌, ◌∙◌, ℕ, Bool, List, Some, cond, refl, ap, sym, subst}
use Rattle.std.proofs.lemmas.Bool.{eq-eqb}
use Rattle.std.specs.List.{AllByRecursion}
use Rattle.net_base.specs.declared.plan.Plan.{Plan}
use Rattle.net_base.specs.declared.plan.circuit_plan.CircuitPlan.{CircuitPlan}
use Rattle.net_base.specs.declared.plan.places.CircuitId.{CircuitId}
use Rattle.net_base.specs.declared.plan.places.EdgeId.{EdgeId}
use Rattle.net_base.specs.declared.plan.places.ServiceId.{ServiceId}
use Rattle.net_base.specs.declared.trace.arrival.Arrival.{Arrival}
use Rattle.net_base.specs.declared.trace.arrival.Arrival.TheVariants as arrival
use Rattle.net_base.specs.trace.Frame.{destination_of}
use Rattle.vsi_bridge.specs.Targets.{known_port}
use Rattle.edge_model.specs.Frame.{destination, forwarded, hearing}
use Rattle.edge_model.specs.State.{EdgeState, addresses_of}
use Rattle.edge_model.specs.Work.{Work}
use Rattle.edge_model.proofs.CopyLemmas.{forwards_copies}
use Rattle.network_model.specs.declared.packet.Packet.{Packet}
use Rattle.network_model.specs.Absorb.{absorb, begin_at, taken_all}
use Rattle.network_model.specs.Frame.{entering, frame_work, next_origin}
use Rattle.network_model.specs.Packet.{arriving, packet_work}
use Rattle.network_model.specs.State.{NetworkState, with_edge, with_frame, without_packet}
use Rattle.network_model.proofs.AbsorbLemmas.{all_keep}
use Rattle.flood_laws.specs.Copy.{IsStill}
use Rattle.flood_laws.proofs.StillLemmas.{arrive_still}
use Rattle.address_laws.specs.Points.{Points, PointsToSite}
use Rattle.address_laws.specs.Sites.{Sites}
use Rattle.address_laws.proofs.KnownLeadLemmas.{LeadsToSite, known_leads}
use Rattle.address_laws.proofs.StillReachLemmas.{still_reach}

-- the edge that worked is in the network
absorbed_edge : (me : EdgeId) (origin hops : ℕ) (work : Work) (network : NetworkState) → (absorb me origin hops work network).state.edges me.0 ≡ work.edge
unfolding with_edge
absorbed_edge me origin hops work network =
    ap (λ (edges : ℕ → EdgeState). edges me.0) (all_keep me origin hops work.effects (with_edge me work.edge network)).edges
    ∙ ap (λ (b : Bool). cond b work.edge (network.edges me.0)) (eq-eqb me.0 me.0 refl)

-- what leads to a site in a state of the stretch does so in its first state
lead_still : (plan : Plan) (calm network : NetworkState) (service : ServiceId) (circuit : CircuitId) (edge : EdgeId) (place : ℕ) → IsStill calm network
    → LeadsToSite plan network service circuit edge place → LeadsToSite plan calm service circuit edge place
lead_still plan calm network service circuit edge place still leads =
    record { port = leads.port; at = leads.at; reaches = sym (still_reach plan calm network still service edge.0 leads.port circuit) ∙ leads.reaches }

-- an edge has heard a frame, and in the state after it addresses point to their sites
heard_leads : (plan : Plan) (calm next : NetworkState) (service : ServiceId) (site : Sites) (edge : EdgeId) (came : Arrival) (frame : List ℕ) (from place : ℕ) (network : NetworkState) (work : Work)
    → IsStill calm next → Points plan next service site → next.edges edge.0 ≡ work.edge → work ≡ forwarded plan taken_all came service frame (Some from) (begin_at network edge)
    → known_port (addresses_of (hearing service frame from (network.edges edge.0)) service) (destination frame) ≡ Some place
    → LeadsToSite plan calm service (site (destination_of frame)) edge place
heard_leads plan calm next service site edge came frame from place network work still points worked is known =
    let heard : next.edges edge.0 ≡ hearing service frame from (network.edges edge.0) =
    worked ∙ (ap (λ (w : Work). w.edge) is ∙ (forwards_copies plan taken_all came service frame from (begin_at network edge)).heard) in
    lead_still plan calm next service (site (destination_of frame)) edge place still
    (known_leads plan next service site edge (addresses_of (hearing service frame from (network.edges edge.0)) service) (destination frame) place
    (subst (λ (e : EdgeState). AllByRecursion (PointsToSite plan next service site edge.0) (addresses_of e service)) heard (points edge.0)) known)

-- a packet arrives
pub arriving_leads : (plan : Plan) (calm network : NetworkState) (service : ServiceId) (site : Sites) (packet : Packet) (frame : List ℕ) (from place : ℕ)
    → IsStill calm network → Points plan (arriving plan packet network).state service site
    → packet_work plan network packet ≡ forwarded plan taken_all (arrival.Wire packet.wire) service frame (Some from) (begin_at network packet.to)
    → known_port (addresses_of (hearing service frame from (network.edges packet.to.0)) service) (destination frame) ≡ Some place
    → LeadsToSite plan calm service (site (destination_of frame)) packet.to place
arriving_leads plan calm network service site packet frame from place still points is known =
    heard_leads plan calm (arriving plan packet network).state service site packet.to (arrival.Wire packet.wire) frame from place network (packet_work plan network packet)
    (arrive_still plan calm network (Some packet) still) points (absorbed_edge packet.to packet.origin packet.hops (packet_work plan network packet) (without_packet packet.number network)) is known

-- a frame enters
pub entering_leads : (plan : Plan) (calm network : NetworkState) (service : ServiceId) (site : Sites) (circuit : CircuitId) (octets : List ℕ) (row : CircuitPlan) (frame : List ℕ) (from place : ℕ)
    → IsStill calm (entering network circuit octets row (frame_work plan network circuit octets row)).state
    → Points plan (entering network circuit octets row (frame_work plan network circuit octets row)).state service site
    → frame_work plan network circuit octets row ≡ forwarded plan taken_all (arrival.Circuit circuit) service frame (Some from) (begin_at network row.edge)
    → known_port (addresses_of (hearing service frame from (network.edges row.edge.0)) service) (destination frame) ≡ Some place
    → LeadsToSite plan calm service (site (destination_of frame)) row.edge place
entering_leads plan calm network service site circuit octets row frame from place still points is known =
    heard_leads plan calm (entering network circuit octets row (frame_work plan network circuit octets row)).state service site row.edge (arrival.Circuit circuit) frame from place network
    (frame_work plan network circuit octets row) still points (absorbed_edge row.edge (next_origin network) 0 (frame_work plan network circuit octets row) (with_frame network)) is known
