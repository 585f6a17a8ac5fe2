-- A frame that is flooded goes to a group, or to a station of which its bridge knows no port.
use Rattle.std.proofs.Common.{◌≡◌, ◌&&◌, ◌||◌, ◌∙◌, ℕ, Bool, true, false, List, ◌∷◌, Option, Some, None, Ok, length, refl, ap, sym, not, inl, inr}
use Rattle.std.proofs.lemmas.Bool.{cases_Bool, eq-eqb, not-true}
use Rattle.std.specs.Prelude.{option_map}
use Rattle.std.specs.List.{list_any}
use Rattle.std.specs.Str.{bytes_eq}
use Rattle.net_base.specs.declared.plan.Plan.{Plan}
use Rattle.net_base.specs.declared.plan.circuit_plan.CircuitPlan.{CircuitPlan}
use Rattle.net_base.specs.declared.trace.event.Event.{Event}
use Rattle.net_base.specs.declared.trace.event.Event.TheVariants.{Frame}
use Rattle.net_values.specs.declared.mac.Mac.{Mac}
use Rattle.net_base.specs.declared.plan.places.CircuitId.{CircuitId}
use Rattle.net_base.specs.declared.plan.places.ServiceId.{ServiceId}
use Rattle.net_base.specs.trace.Frame.{destination_of, source_of, goes_to_group}
use Rattle.net_base.specs.trace.Isolated.{inner_at}
use Rattle.net_values.specs.Mac.{is_group_address}
use Rattle.net_values.proofs.BoolLemmas.{first_holds, second_holds}
use Rattle.net_base.specs.plan.Accepted.{IsChecked}
use Rattle.net_base.specs.plan.Places.{circuit_row}
use Rattle.mac_table.specs.Addresses.{has_address}
use Rattle.mac_table.specs.declared.mac_entry.MacEntry.{MacEntry}
use Rattle.mac_table.proofs.AddressLemmas.{entry_of-absent, port_of-learned_other}
use Rattle.vsi_bridge.specs.BridgeState.{table_of}
use Rattle.vsi_bridge.specs.Targets.{heard, known_port}
use Rattle.edge_model.specs.Frame.{destination, hearing, source}
use Rattle.edge_model.specs.State.{EdgeState, addresses_of, is_on, with_addresses}
use Rattle.network_model.specs.Reach.{is_circuit_of, is_circuit_on, is_row_of, is_row_on}
use Rattle.network_model.specs.State.{NetworkState, edge_at}
use Rattle.network_model.specs.Window.{is_flooded_frame, is_unlearned, is_sourced, packet_teaches, some_teach, teaches}
use Rattle.network_model.proofs.CalmLemmas.{below_holds}
use Rattle.network_model.proofs.PlanLemmas.{circuit_of}

-- a station that is not held has no port, and has none after another one was heard
unknown_absent : (entries : List MacEntry) (station : Mac) → has_address entries station ≡ false → known_port entries station ≡ None
unknown_absent entries station absent = elim (cases_Bool (is_group_address station.0)) [
  | inl group ↦ rw group refl
  | inr single ↦ rw single (ap (λ o. option_map (λ (e : MacEntry). e.port) o) (entry_of-absent entries station absent))
]

unknown_still : (entries : List MacEntry) (from station : Mac) (arrival now : ℕ) → has_address entries station ≡ false → bytes_eq from.0 station.0 ≡ false
    → known_port (heard entries from arrival now) station ≡ None
unknown_still entries from station arrival now absent other = elim (cases_Bool (is_group_address from.0)) [
  | inl group ↦ rw group (unknown_absent entries station absent)
  | inr single ↦ rw single (elim (cases_Bool (is_group_address station.0)) [
    | inl group ↦ rw group refl
    | inr alone ↦ rw alone
        (port_of-learned_other (table_of entries) (record { address = from; port = arrival; tick = now }) station other
        ∙ ap (λ o. option_map (λ (e : MacEntry). e.port) o) (entry_of-absent entries station absent))
  ])
]

-- a bridge that has heard a frame of another source knows no port for a destination that it does not hold
pub unknown_hearing : (edge : EdgeState) (service : ServiceId) (frame : List ℕ) (arrival : ℕ)
    → has_address (addresses_of edge service) (destination frame) ≡ false → bytes_eq (source_of frame) (destination_of frame) ≡ false
    → known_port (addresses_of (hearing service frame arrival edge) service) (destination frame) ≡ None
unfolding with_addresses
unknown_hearing edge service frame arrival absent other =
    rw (eq-eqb service.0 service.0 refl) (unknown_still (addresses_of edge service) (source frame) (destination frame) arrival edge.ticks absent other)

-- nor any bridge for a group
pub group_hearing : (entries : List MacEntry) (frame : List ℕ) → goes_to_group frame ≡ true → known_port entries (destination frame) ≡ None
group_hearing entries frame group = rw group refl

-- the bridge knows no port for the destination of a flooded frame
pub unknown_heard : (plan : Plan) (network : NetworkState) (at : CircuitId) (octets frame : List ℕ) (row : CircuitPlan) (during : List Event)
    → IsChecked plan → circuit_row plan at ≡ Some row → is_on (edge_at network row.edge) at ≡ true → inner_at plan at octets ≡ Ok frame
    → is_flooded_frame plan network row.service frame (Frame at octets ∷ during) ≡ true
    → (arrival : ℕ) → known_port (addresses_of (hearing row.service frame arrival (edge_at network row.edge)) row.service) (destination frame) ≡ None
unknown_heard plan network at octets frame row during checked is on formed floods arrival = elim (cases_Bool (goes_to_group frame)) [
  | inl group ↦ group_hearing (addresses_of (hearing row.service frame arrival (edge_at network row.edge)) row.service) frame group
  | inr single ↦
      (let unlearned : Bool = is_unlearned plan network row.service (destination_of frame) in
      let packets : Bool = not (list_any (packet_teaches plan row.service (destination_of frame)) network.under_way) in
      let taught : Bool = some_teach plan network row.service (destination_of frame) (Frame at octets ∷ during) in
      let both : (unlearned && packets) && not taught ≡ true = rw single at floods in
      let none = first_holds unlearned packets (first_holds (unlearned && packets) (not taught) both) in
      let here = below_holds (length plan.edges) row.edge.0 (λ edge. not (has_address ((network.edges edge).learned row.service.0) (destination frame))) none
      (circuit_of plan at row checked is).edge in
      let first : teaches plan network row.service (destination_of frame) (Frame at octets) ≡ false =
      first_of (teaches plan network row.service (destination_of frame) (Frame at octets)) _ (second_holds (unlearned && packets) (not taught) both) in
      let own : is_circuit_of plan row.service at ≡ true = ap (λ (r : Option CircuitPlan). is_row_of row.service r) is ∙ eq-eqb row.service.0 row.service.0 refl in
      let here_on : is_circuit_on plan network at ≡ true = ap (λ (r : Option CircuitPlan). is_row_on network at r) is ∙ on in
      let other : bytes_eq (source_of frame) (destination_of frame) ≡ false =
      ap (is_sourced (destination_of frame)) (sym formed) ∙ (rw (own, here_on) at first) in
      unknown_hearing (edge_at network row.edge) row.service frame arrival (not-true (has_address (addresses_of (edge_at network row.edge) row.service) (destination frame)) here) other)
] where
  first_of : (a b : Bool) → not (a || b) ≡ true → a ≡ false
  first_of false b holds = refl
  first_of true b holds = absurd (cc)
