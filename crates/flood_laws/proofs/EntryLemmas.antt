-- The frame of a window that is flooded: it goes to a group, or no bridge of its service has learned its destination, nothing teaches
-- it later, and no bridge that hears the frame knows a port for it.
use Rattle.std.proofs.Common.{◌≡◌, ◌<◌, ◌&&◌, ◌||◌, ◌⊎◌, ◌∙◌, ℕ, Bool, true, false, List, [], ◌∷◌, Option, Some, None, Ok, length, refl, ap, sym, nat_eq, nat_lt, not, option_map, inl, inr}
use Rattle.std.proofs.lemmas.Bool.{cases_Bool, eq-eqb, eqb-true, not-true, ltb-true}
use Rattle.std.specs.List.{list_all, list_any}
use Rattle.std.specs.Str.{bytes_eq}
use Rattle.net_values.proofs.BoolLemmas.{first_holds, second_holds, second_fails, first_fails}
use Rattle.net_base.specs.declared.plan.Plan.{Plan}
use Rattle.net_base.specs.declared.plan.circuit_plan.CircuitPlan.{CircuitPlan}
use Rattle.net_base.specs.declared.plan.places.CircuitId.{CircuitId}
use Rattle.net_base.specs.declared.plan.places.EdgeId.{EdgeId}
use Rattle.net_base.specs.declared.plan.places.ServiceId.{ServiceId}
use Rattle.net_base.specs.declared.trace.entry.Entry.{Entry}
use Rattle.net_base.specs.declared.trace.event.Event.{Event}
use Rattle.net_base.specs.declared.trace.event.Event.TheVariants.{Frame}
use Rattle.net_base.specs.plan.Accepted.{IsChecked}
use Rattle.net_base.specs.plan.Paths.{joins}
use Rattle.net_base.specs.plan.Places.{circuit_row, service_of}
use Rattle.net_base.specs.plan.RowFaults.{is_edge_of}
use Rattle.net_base.specs.trace.Isolated.{inner_at}
use Rattle.net_base.specs.trace.Frame.{destination_of, goes_to_group, source_of}
use Rattle.mac_table.specs.Addresses.{has_address}
use Rattle.vsi_bridge.specs.Targets.{known_port}
use Rattle.edge_model.specs.Frame.{destination, hearing}
use Rattle.edge_model.specs.State.{addresses_of}
use Rattle.network_model.specs.declared.packet.Packet.{Packet}
use Rattle.network_model.specs.Reach.{is_circuit_on, is_row_of}
use Rattle.network_model.specs.State.{NetworkState}
use Rattle.network_model.specs.Step.{step}
use Rattle.network_model.specs.Window.{is_flooded_frame, is_sourced, is_unlearned, packet_teaches, some_teach, teaches}
use Rattle.network_model.proofs.CalmLemmas.{below_holds}
use Rattle.network_model.proofs.FloodLemmas.{group_hearing, unknown_hearing}
use Rattle.packet_laws.specs.Carried.{IsCarried}
use Rattle.flood_laws.proofs.StillLemmas.{IsUnlearned}
use Rattle.flight_laws.proofs.RuledMendLemmas.{wire_fits}

-- ---- what is said of the frame as it enters

-- the address is unlearned, the frame itself does not teach it, and nothing does later in the window
pub record StaysUnlearned (plan : Plan) (service : ServiceId) (address : List ℕ) (at : CircuitId) (octets : List ℕ) (during : List Event) (network : NetworkState) : Type 0 where
  pub now : IsUnlearned plan service address network
  pub first : teaches plan network service address (Frame at octets) ≡ false
  pub later : some_teach plan (step plan network (Frame at octets)).state service address during ≡ false

-- a flooded frame goes to a group, or to an address that stays unlearned
pub flooded_unlearned : (plan : Plan) (network : NetworkState) (service : ServiceId) (frame : List ℕ) (at : CircuitId) (octets : List ℕ) (during : List Event)
    → is_flooded_frame plan network service frame (Frame at octets ∷ during) ≡ true
    → (goes_to_group frame ≡ true) ⊎ StaysUnlearned plan service (destination_of frame) at octets during network
flooded_unlearned plan network service frame at octets during floods = elim (cases_Bool (goes_to_group frame)) [
  | inl group ↦ inl group
  | inr single ↦
      (let unlearned : Bool = is_unlearned plan network service (destination_of frame) in
      let packets : Bool = list_any (packet_teaches plan service (destination_of frame)) network.under_way in
      let taught : Bool = some_teach plan network service (destination_of frame) (Frame at octets ∷ during) in
      let both : (unlearned && not packets) && not taught ≡ true = rw single at floods in
      let tables = first_holds unlearned (not packets) (first_holds (unlearned && not packets) (not taught) both) in
      let none : taught ≡ false = not-true taught (second_holds (unlearned && not packets) (not taught) both) in
      let entering : Bool = teaches plan network service (destination_of frame) (Frame at octets) in
      let during_it : Bool = some_teach plan (step plan network (Frame at octets)).state service (destination_of frame) during in
      inr (record {
        now = record {
          tables = λ k within. not-true (has_address ((network.edges k).learned service.0) (record { 0 = destination_of frame }))
              (below_holds (length plan.edges) k (λ edge. not (has_address ((network.edges edge).learned service.0) (record { 0 = destination_of frame }))) tables within);
          packets = not-true packets (second_holds unlearned (not packets) (first_holds (unlearned && not packets) (not taught) both));
        };
        first = first_fails entering during_it none;
        later = second_fails entering during_it none;
      }))
]

-- a frame that enters at a circuit of the service that is on has another source than an address that it does not teach
pub other_source : (plan : Plan) (network : NetworkState) (service : ServiceId) (at : CircuitId) (octets frame address : List ℕ)
    → service_of plan at ≡ Some service → is_circuit_on plan network at ≡ true → inner_at plan at octets ≡ Ok frame → teaches plan network service address (Frame at octets) ≡ false
    → bytes_eq (source_of frame) address ≡ false
other_source plan network service at octets frame address of_service on formed untaught =
    ap (is_sourced address) (sym formed) ∙ (rw (own (circuit_row plan at) of_service, on) at untaught)
  where
    own : (row : Option CircuitPlan) → option_map (λ (c : CircuitPlan). c.service) row ≡ Some service → is_row_of service row ≡ true
    own None is = absurd (cc (is))
    own (Some row) is =
        let same : row.service ≡ service = cc (is) in
        eq-eqb row.service.0 service.0 (ap (λ (s : ServiceId). s.0) same)

-- ---- what a bridge knows that hears the frame

-- an edge of the plan knows no port for a destination that is unlearned, when it has heard a frame of another source
pub unlearned_unknown : (plan : Plan) (network : NetworkState) (service : ServiceId) (frame : List ℕ) (arrival k : ℕ)
    → IsUnlearned plan service (destination_of frame) network → bytes_eq (source_of frame) (destination_of frame) ≡ false → k < length plan.edges
    → known_port (addresses_of (hearing service frame arrival (network.edges k)) service) (destination frame) ≡ None
unlearned_unknown plan network service frame arrival k unlearned other within = unknown_hearing (network.edges k) service frame arrival (unlearned.tables k within) other

-- nor any edge for a group
pub group_unknown : (network : NetworkState) (service : ServiceId) (frame : List ℕ) (arrival k : ℕ) → goes_to_group frame ≡ true
    → known_port (addresses_of (hearing service frame arrival (network.edges k)) service) (destination frame) ≡ None
group_unknown network service frame arrival k group = group_hearing (addresses_of (hearing service frame arrival (network.edges k)) service) frame group

-- ---- the edges that packets reach

-- an edge to which a path joins another one is in the plan, where all edges of the path are
joined_within : (plan : Plan) (path : List EdgeId) (a b : ℕ) → list_all (is_edge_of plan) path ≡ true → joins a b path ≡ true → nat_lt b (length plan.edges) ≡ true
joined_within plan [] a b all joined = absurd (cc (joined))
joined_within plan (last ∷ []) a b all joined = absurd (cc (joined))
joined_within plan (first ∷ next ∷ rest) a b all joined =
    by (nat_eq a first.0 && nat_eq b next.0) (nat_eq b first.0 && nat_eq a next.0) refl refl (λ later. joined_within plan (next ∷ rest) a b behind later) joined
  where
    here : nat_lt first.0 (length plan.edges) ≡ true
    here = first_holds (is_edge_of plan first) (list_all (is_edge_of plan) (next ∷ rest)) all

    behind : list_all (is_edge_of plan) (next ∷ rest) ≡ true
    behind = second_holds (is_edge_of plan first) (list_all (is_edge_of plan) (next ∷ rest)) all

    by : (one other : Bool) → nat_eq a first.0 && nat_eq b next.0 ≡ one → nat_eq b first.0 && nat_eq a next.0 ≡ other
        → (joins a b (next ∷ rest) ≡ true → nat_lt b (length plan.edges) ≡ true) → (one || other) || joins a b (next ∷ rest) ≡ true → nat_lt b (length plan.edges) ≡ true
    by true other is also later some =
        ap (λ (n : ℕ). nat_lt n (length plan.edges)) (eqb-true b next.0 (second_holds (nat_eq a first.0) (nat_eq b next.0) is))
        ∙ first_holds (is_edge_of plan next) (list_all (is_edge_of plan) rest) behind
    by false true is also later some = ap (λ (n : ℕ). nat_lt n (length plan.edges)) (eqb-true b first.0 (first_holds (nat_eq b first.0) (nat_eq a next.0) also)) ∙ here
    by false false is also later some = later some

-- a packet that is carried goes to an edge of the plan
pub carried_within : (plan : Plan) (network : NetworkState) (trace : List Entry) (packet : Packet) → IsChecked plan → IsCarried plan network trace packet → packet.to.0 < length plan.edges
carried_within plan network trace packet checked rule =
    ltb-true packet.to.0 (length plan.edges) (joined_within plan rule.row.path packet.from.0 packet.to.0 (wire_fits plan packet.wire rule.row checked rule.is).edges rule.joined)
