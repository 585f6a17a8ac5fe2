-- A stretch, one event after another: nothing changes but addresses and packets, addresses point to their sites, and copies come
-- from where their frames entered.
use Rattle.std.proofs.Common.{◌≡◌, ◌++◌, ℕ, Bool, true, false, List, [], ◌∷◌, Option, Some, None, cond, nat_eq, refl, sym, subst, inl, inr}
use Rattle.std.proofs.lemmas.Bool.{cases_Bool, eqb-true}
use Rattle.std.proofs.lemmas.List.Elements.{All-head, All-tail}
use Rattle.std.specs.List.{All, AllByRecursion, list_all}
use Rattle.net_values.proofs.BoolLemmas.{first_holds, second_holds}
use Rattle.net_base.specs.declared.plan.Plan.{Plan}
use Rattle.net_base.specs.declared.plan.circuit_plan.CircuitPlan.{CircuitPlan}
use Rattle.net_base.specs.declared.plan.places.CircuitId.{CircuitId}
use Rattle.net_base.specs.declared.plan.places.EdgeId.{EdgeId}
use Rattle.net_base.specs.declared.plan.places.ServiceId.{ServiceId}
use Rattle.net_base.specs.declared.trace.entry.Entry.{Entry}
use Rattle.net_base.specs.declared.trace.entry.Entry.TheVariants.{In}
use Rattle.net_base.specs.declared.trace.event.Event.{Event}
use Rattle.net_base.specs.declared.trace.event.Event.TheVariants.{Frame, Arrive, Discard, Again}
use Rattle.net_base.specs.plan.Accepted.{IsChecked}
use Rattle.net_base.specs.plan.Places.{circuit_row}
use Rattle.net_base.specs.plan.Planned.{IsEventOf}
use Rattle.net_base.specs.trace.Isolated.{Among}
use Rattle.net_base.proofs.TraceLemmas.{among-append}
use Rattle.edge_model.specs.State.{EdgeState}
use Rattle.edge_model.specs.Work.{Work}
use Rattle.edge_model.proofs.BridgeLemmas.{frame_bridges, packet_bridges}
use Rattle.network_model.specs.declared.packet.Packet.{Packet}
use Rattle.network_model.specs.Absorb.{absorb, begin_at, idle, taken_all}
use Rattle.network_model.specs.Calm.{is_calm}
use Rattle.network_model.specs.Frame.{entering, frame_event, frame_work, next_origin}
use Rattle.network_model.specs.Packet.{again_event, arrive_event, discard_event, packet_at, packet_work, repeating}
use Rattle.network_model.specs.Run.{entries_along, state_after}
use Rattle.network_model.specs.State.{NetworkState, with_edge, with_frame, with_copy, without_packet}
use Rattle.network_model.specs.Step.{step}
use Rattle.network_model.proofs.AbsorbLemmas.{all_keep}
use Rattle.network_model.proofs.EdgeLemmas.{HoldsOfEach}
use Rattle.network_model.proofs.PacketListLemmas.{absorb_sends, append_holds, copy_of, packet_holds, packets_of, repeating_sends, without_hold}
use Rattle.network_model.proofs.OtherLemmas.{numbered_from}
use Rattle.flight_laws.specs.Ends.{HasTypes}
use Rattle.flight_laws.proofs.RuledNetworkLemmas.{IsRuledNetwork}
use Rattle.packet_laws.specs.Carried.{KeepsPacketRule, FollowsPacketRule}
use Rattle.flood_laws.specs.Copy.{IsStill, IsStillEdge}
use Rattle.flood_laws.proofs.WindowLemmas.{IsReached, step_reached}
use Rattle.flood_laws.proofs.StillLemmas.{still_learns}
use Rattle.address_laws.specs.Points.{PointsToSite}
use Rattle.address_laws.specs.Sites.{OneSite, Sites}
use Rattle.address_laws.specs.Stretch.{is_of_stretch}
use Rattle.address_laws.proofs.SideLemmas.{HasSide, KnowsSide}
use Rattle.address_laws.proofs.WorkLemmas.{WorksRight, frame_right, packet_right, echo_works}

-- ---- a state of a stretch

-- of an edge nothing but its addresses has changed, and those of the service point to their sites
pub record IsRightEdge (plan : Plan) (calm : NetworkState) (service : ServiceId) (site : Sites) (k : ℕ) (edge : EdgeState) : Type 0 where
  pub still : IsStillEdge (calm.edges k) edge
  pub table : AllByRecursion (PointsToSite plan calm service site k) (edge.learned service.0)

-- so it is with each edge, and each packet comes from where its frame entered
pub record IsRight (plan : Plan) (calm : NetworkState) (service : ServiceId) (site : Sites) (told : List Entry) (network : NetworkState) : Type 0 where
  pub edges : HoldsOfEach (IsRightEdge plan calm service site) network
  pub packets : AllByRecursion (KnowsSide plan calm service told) network.under_way

pub right_still : (plan : Plan) (calm : NetworkState) (service : ServiceId) (site : Sites) (told : List Entry) (network : NetworkState)
    → IsRight plan calm service site told network → IsStill calm network
right_still plan calm service site told network right = record { edges = λ k. (right.edges k).still }

-- a repeated packet comes from where the packet does
again_side : (plan : Plan) (calm : NetworkState) (service : ServiceId) (told : List Entry) (packet : Packet) (sent : ℕ) → KnowsSide plan calm service told packet
    → KnowsSide plan calm service told (copy_of sent packet)
again_side plan calm service told packet sent knows numbered row is ours =
    let side : HasSide plan calm service told packet row = knows numbered row is ours in
    record { frame = side.frame; come = side.come; carries = side.carries; behind = side.behind }

pub among_behind : (entry : Entry) (xs ys : List Entry) → Among entry ys → Among entry (xs ++ ys)
among_behind entry [] ys among = among
among_behind entry (x ∷ xs) ys among = inr (among_behind entry xs ys among)

-- what was told of all events is told of the whole run
abbrev pub AreAmong : List Entry → List Entry → Type 0
AreAmong told entries = (entry : Entry) → Among entry entries → Among entry told

module _ (plan : Plan) (calm : NetworkState) (service : ServiceId) (site : Sites) (told : List Entry)
    (checked : IsChecked plan) (calmed : is_calm plan calm service ≡ true) (one : OneSite plan service site told) where
  abbrev Right : NetworkState → Type 0
  Right network = IsRight plan calm service site told network

  -- ---- the work of an edge

  edge_right : (me : EdgeId) (edge : EdgeState) (network : NetworkState) → HoldsOfEach (IsRightEdge plan calm service site) network
      → IsRightEdge plan calm service site me.0 edge
      → HoldsOfEach (IsRightEdge plan calm service site) (with_edge me edge network)
  unfolding with_edge
  edge_right me edge network holds here k = elim (cases_Bool (nat_eq k me.0)) [
    | inl same ↦ rw same (subst (λ (n : ℕ). IsRightEdge plan calm service site n edge) (sym (eqb-true k me.0 same)) here)
    | inr other ↦ rw other (holds k)
  ]

  absorb_right : (me : EdgeId) (origin hops : ℕ) (work : Work) (network : NetworkState) → Right network → IsStillEdge (calm.edges me.0) work.edge
      → WorksRight plan calm service site told me origin work
      → Right (absorb me origin hops work network).state
  absorb_right me origin hops work network right still works = record {
    edges = λ k. subst (λ (edges : ℕ → EdgeState). IsRightEdge plan calm service site k (edges k))
        (sym (all_keep me origin hops work.effects (with_edge me work.edge network)).edges)
        (edge_right me work.edge network right.edges (record { still = still; table = works.table }) k);
    packets = subst (AllByRecursion (KnowsSide plan calm service told)) (sym (absorb_sends me origin hops work network).under_way)
        (append_holds (KnowsSide plan calm service told) network.under_way (packets_of me origin hops network.sent work.effects) right.packets (works.sent hops network.sent));
  }

  -- ---- a frame enters

  entered_right : (network : NetworkState) → Right network → Right (with_frame network)
  unfolding with_frame
  entered_right network right = record { edges = right.edges; packets = right.packets }

  frame_event_right : (network : NetworkState) (circuit : CircuitId) (octets : List ℕ) (found : Option CircuitPlan) → IsRuledNetwork plan network
      → circuit_row plan circuit ≡ found
      → AreAmong told (frame_event plan circuit octets found network).entries → Right network → Right (frame_event plan circuit octets found network).state
  frame_event_right network circuit octets None ruled is tells right = right
  frame_event_right network circuit octets (Some row) ruled is tells right = by (frame_work plan network circuit octets row).idle tells where
    by : (idles : Bool) → AreAmong told (cond idles (idle network) (entering network circuit octets row (frame_work plan network circuit octets row))).entries
        → Right (cond idles (idle network) (entering network circuit octets row (frame_work plan network circuit octets row))).state
    by true tells = right
    by false tells =
        let here : IsRightEdge plan calm service site row.edge.0 (network.edges row.edge.0) = right.edges row.edge.0 in
        absorb_right row.edge (next_origin network) 0 (frame_work plan network circuit octets row) (with_frame network) (entered_right network right)
        (still_learns (calm.edges row.edge.0) (network.edges row.edge.0) (frame_work plan network circuit octets row).edge
        (frame_bridges plan taken_all circuit octets (Some row) (begin_at network row.edge)).edge here.still)
        (frame_right plan calm network service site told circuit octets row (next_origin network) checked calmed one ruled
        (right_still plan calm service site told network right) here.table is
        (tells (In circuit (next_origin network) octets) (inl refl)) (numbered_from network.entered))

  -- ---- a packet reaches its edge, is lost, or is repeated

  without_right : (number : ℕ) (network : NetworkState) → Right network → Right (without_packet number network)
  unfolding without_packet
  without_right number network right = record { edges = right.edges; packets = without_hold (KnowsSide plan calm service told) number network.under_way right.packets }

  arrive_right : (network : NetworkState) (trace : List Entry) (number : ℕ) (found : Option Packet) → IsRuledNetwork plan network
      → KeepsPacketRule plan network trace → packet_at network number ≡ found
      → Right network → Right (arrive_event plan found network).state
  arrive_right network trace number None ruled rule is right = right
  arrive_right network trace number (Some packet) ruled rule is right =
      let here : IsRightEdge plan calm service site packet.to.0 (network.edges packet.to.0) = right.edges packet.to.0 in
      absorb_right packet.to packet.origin packet.hops (packet_work plan network packet) (without_packet packet.number network) (without_right packet.number network right)
      (still_learns (calm.edges packet.to.0) (network.edges packet.to.0) (packet_work plan network packet).edge
      (packet_bridges plan taken_all packet.bytes (begin_at network packet.to)).edge here.still)
      (either (packet_holds (FollowsPacketRule plan network trace) network number packet rule is))
    where
      either : FollowsPacketRule plan network trace packet → WorksRight plan calm service site told packet.to packet.origin (packet_work plan network packet)
      either (inl carried) =
          packet_right plan calm network service site told trace packet checked calmed one ruled (right_still plan calm service site told network right) (right.edges packet.to.0).table carried
          (packet_holds (KnowsSide plan calm service told) network number packet right.packets is)
      either (inr echo) = echo_works plan calm network service site told packet checked ruled (right.edges packet.to.0).table echo

  discard_right : (network : NetworkState) (found : Option Packet) → Right network → Right (discard_event found network).state
  discard_right network None right = right
  discard_right network (Some packet) right = without_right packet.number network right

  repeated_edges : (packet : Packet) (network : NetworkState) → Right network → HoldsOfEach (IsRightEdge plan calm service site) (repeating packet network).state
  unfolding with_copy
  repeated_edges packet network right = right.edges

  again_right : (network : NetworkState) (number : ℕ) (found : Option Packet) → packet_at network number ≡ found → Right network
      → Right (again_event found network).state
  again_right network number None is right = right
  again_right network number (Some packet) is right = record {
    edges = repeated_edges packet network right;
    packets = subst (AllByRecursion (KnowsSide plan calm service told)) (sym (repeating_sends packet network).under_way)
        (append_holds (KnowsSide plan calm service told) network.under_way (copy_of network.sent packet ∷ []) right.packets
        (again_side plan calm service told packet network.sent (packet_holds (KnowsSide plan calm service told) network number packet right.packets is), tt));
  }

  -- ---- the events of a stretch

  step_right : (network : NetworkState) (trace : List Entry) (event : Event) → IsRuledNetwork plan network → KeepsPacketRule plan network trace
      → is_of_stretch event ≡ true
      → AreAmong told (step plan network event).entries → Right network → Right (step plan network event).state
  step_right network trace (Frame circuit octets) ruled rule of tells right =
      frame_event_right network circuit octets (circuit_row plan circuit) ruled refl (λ entry among. tells entry (inr among)) right
  step_right network trace (Arrive number) ruled rule of tells right = arrive_right network trace number (packet_at network number) ruled rule refl right
  step_right network trace (Discard number) ruled rule of tells right = discard_right network (packet_at network number) right
  step_right network trace (Again number) ruled rule of tells right = again_right network number (packet_at network number) refl right
  step_right network trace event ruled rule of tells right = absurd (cc (of))

  -- one after another
  pub stretch_right : (network : NetworkState) (trace : List Entry) (events : List Event) → HasTypes plan → All (IsEventOf plan) events
      → IsReached plan network trace → list_all is_of_stretch events ≡ true
      → AreAmong told (entries_along plan network events) → Right network → Right (state_after plan network events)
  stretch_right network trace [] types planned reached of tells right = right
  stretch_right network trace (e ∷ es) types planned reached of tells right =
      let next : NetworkState = (step plan network e).state in
      let here : List Entry = (step plan network e).entries in
      stretch_right next (trace ++ here) es types (All-tail (IsEventOf plan) e es planned)
      (step_reached plan network trace e checked types (All-head (IsEventOf plan) e es planned) reached) (second_holds (is_of_stretch e) (list_all is_of_stretch es) of)
      (λ entry among. tells entry (among_behind entry here (entries_along plan next es) among))
      (step_right network trace e reached.ruled reached.rule (first_holds (is_of_stretch e) (list_all is_of_stretch es) of)
      (λ entry among. tells entry (among-append entry here (entries_along plan next es) among)) right)
