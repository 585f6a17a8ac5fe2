-- In a stretch nothing but addresses and packets changes.
use Rattle.std.proofs.Common.{◌≡◌, ◌&&◌, ℕ, Bool, true, List, [], ◌∷◌, Option, Some, None, refl, ap}
use Rattle.std.specs.List.{list_all}
use Rattle.net_values.proofs.BoolLemmas.{first_holds, second_holds}
use Rattle.net_base.specs.declared.plan.Plan.{Plan}
use Rattle.net_base.specs.declared.plan.circuit_plan.CircuitPlan.{CircuitPlan}
use Rattle.net_base.specs.declared.plan.places.CircuitId.{CircuitId}
use Rattle.net_base.specs.declared.plan.places.ServiceId.{ServiceId}
use Rattle.net_base.specs.declared.trace.event.Event.{Event}
use Rattle.net_base.specs.declared.trace.event.Event.TheVariants.{Frame, Arrive, Discard, Again}
use Rattle.net_base.specs.plan.Places.{circuit_row}
use Rattle.edge_model.specs.Frame.{hearing}
use Rattle.edge_model.specs.State.{EdgeState, with_addresses, with_learned}
use Rattle.network_model.specs.Packet.{packet_at}
use Rattle.network_model.specs.Reach.{is_circuit_of, is_row_on, is_site}
use Rattle.network_model.specs.Run.{state_after}
use Rattle.network_model.specs.State.{NetworkState}
use Rattle.network_model.specs.Step.{step}
use Rattle.flood_laws.specs.Copy.{IsStill, IsStillEdge}
use Rattle.flood_laws.proofs.SiteLemmas.{still_on}
use Rattle.flood_laws.proofs.StillLemmas.{again_still, arrive_still, discard_still, frame_still}
use Rattle.address_laws.specs.Stretch.{is_of_stretch}

-- ---- the events of a stretch

-- of an edge that hears a frame nothing else changes
pub heard_still : (service : ServiceId) (frame : List ℕ) (arrival : ℕ) (calm edge : EdgeState) → IsStillEdge calm edge → IsStillEdge calm (hearing service frame arrival edge)
unfolding with_addresses with_learned
heard_still service frame arrival calm edge still = record {
  learned = (hearing service frame arrival (with_learned still.learned calm)).learned;
  is = ap (λ (e : EdgeState). hearing service frame arrival e) still.is;
}

stretch_step_still : (plan : Plan) (calm network : NetworkState) (event : Event) → is_of_stretch event ≡ true → IsStill calm network → IsStill calm (step plan network event).state
stretch_step_still plan calm network (Frame circuit octets) of_stretch still = frame_still plan calm network circuit octets (circuit_row plan circuit) still
stretch_step_still plan calm network (Arrive number) of_stretch still = arrive_still plan calm network (packet_at network number) still
stretch_step_still plan calm network (Discard number) of_stretch still = discard_still calm network (packet_at network number) still
stretch_step_still plan calm network (Again number) of_stretch still = again_still calm network (packet_at network number) still
stretch_step_still plan calm network event of_stretch still = absurd (cc (of_stretch))

-- in a stretch nothing but addresses and packets changes
pub stretch_still : (plan : Plan) (calm network : NetworkState) (events : List Event) → list_all is_of_stretch events ≡ true → IsStill calm network → IsStill calm (state_after plan network events)
stretch_still plan calm network [] all still = still
stretch_still plan calm network (e ∷ es) all still =
    stretch_still plan calm (step plan network e).state es (second_holds (is_of_stretch e) (list_all is_of_stretch es) all)
    (stretch_step_still plan calm network e (first_holds (is_of_stretch e) (list_all is_of_stretch es) all) still)

-- ---- the sites

-- so they stay on or off
pub site_still : (plan : Plan) (calm network : NetworkState) (service : ServiceId) (circuit : CircuitId) → IsStill calm network → is_site plan network service circuit
    ≡ is_site plan calm service circuit
site_still plan calm network service circuit still = ap (λ (b : Bool). is_circuit_of plan service circuit && b) (by (circuit_row plan circuit)) where
  by : (row : Option CircuitPlan) → is_row_on network circuit row ≡ is_row_on calm circuit row
  by None = refl
  by (Some row) = ap (λ (on : ℕ → Bool). on circuit.0) (still_on (calm.edges row.edge.0) (network.edges row.edge.0) (still.edges row.edge.0))
