-- A copy of a flooded frame arrives: its edge serves the sites there and sends it on, or drops it where nothing is due by it.
use Rattle.std.proofs.Common.{◌-◌, ◌||◌, ◌≡◌, ◌≤◌, ◌+◌, ◌&&◌, ◌∙◌, ◌⊎◌, ℕ, Bool, true, false, List, [], ◌∷◌, Option, Some, None, cond, nat_eq, position, refl, ap, sym, subst, inl, inr, arith, not}
use Rattle.std.proofs.lemmas.Bool.{cases_Bool, eq-eqb, eqb-true, and_from, or_parts}
use Rattle.std.specs.List.{AllByRecursion, find, list_any}
use Rattle.std.specs.Str.{bytes_eq}
use Rattle.net_values.proofs.BoolLemmas.{second_fails, first_fails, second_fails_of_both}
use Rattle.net_base.specs.declared.plan.Plan.{Plan}
use Rattle.net_base.specs.declared.plan.wire_plan.WirePlan.{WirePlan}
use Rattle.net_base.specs.declared.plan.places.CircuitId.{CircuitId}
use Rattle.net_base.specs.declared.plan.places.EdgeId.{EdgeId}
use Rattle.net_base.specs.declared.plan.places.ServiceId.{ServiceId}
use Rattle.net_base.specs.declared.plan.places.WireId.{WireId}
use Rattle.net_base.specs.declared.trace.arrival.Arrival.{Arrival}
use Rattle.net_base.specs.declared.trace.arrival.Arrival.TheVariants as arrival
use Rattle.net_base.specs.declared.trace.drop_cause.DropCause.{DropCause}
use Rattle.net_base.specs.declared.trace.entry.Entry.{Entry}
use Rattle.net_base.specs.plan.Accepted.{IsChecked}
use Rattle.net_base.specs.plan.Paths.{follows, has_repeat, is_first, is_last, joins, mate_on}
use Rattle.net_base.proofs.PathLemmas.{joins_turned}
use Rattle.network_model.specs.Goal.{first_or, goal, last_or, start}
use Rattle.network_model.proofs.WayLemmas.{joins_is, one_way}
use Rattle.network_model.proofs.GoalLemmas.{goal_reached, has_mate}
use Rattle.eth_encap.specs.Packet.{entry_of}
use Rattle.pw_signalling.specs.End.{Advertised, EndState}
use Rattle.pw_stitch.specs.Relabelling.{relabelled}
use Rattle.edge_model.specs.declared.end_place.EndPlace.{EndPlace}
use Rattle.edge_model.specs.EndPlaces.{end_places, is_named, is_terminal}
use Rattle.edge_model.specs.Packet.{advertiser, advertises_label}
use Rattle.flight_laws.proofs.PlaceLemmas.{NamedEnd, end_of, same_row}
use Rattle.net_base.specs.plan.Places.{is_mesh_class, mtu_of, wire_row}
use Rattle.net_base.specs.plan.Roles.{are_joined_by, is_wire_of, wire_ends_at}
use Rattle.net_base.specs.trace.Frame.{destination_of, goes_to_group, source_of}
use Rattle.hvpls_spokes.specs.Port.{is_mesh_port, is_wire_port, ports_of}
use Rattle.hvpls_spokes.proofs.RowPortLemmas.{wire_behind, wire_leads}
use Rattle.hvpls_spokes.proofs.WirePortLemmas.{LeadsToWire, found_wire_port, same_wire_port, wire_port_is}
use Rattle.vsi_bridge.specs.Targets.{known_port}
use Rattle.edge_model.specs.Copies.{SentCopy}
use Rattle.edge_model.specs.declared.effect.Effect.{Effect}
use Rattle.edge_model.specs.declared.effect.Effect.TheVariants as effect
use Rattle.edge_model.specs.Ends.{end_forwards}
use Rattle.edge_model.specs.Frame.{destination, forwarded, hearing}
use Rattle.edge_model.specs.Send.{drops}
use Rattle.edge_model.specs.State.{EdgeState, addresses_of, end_at}
use Rattle.edge_model.specs.Work.{Work, gives}
use Rattle.edge_model.proofs.PacketLemmas.{mesh_port}
use Rattle.network_model.specs.declared.packet.Packet.{Packet}
use Rattle.network_model.specs.Absorb.{absorb, all_entries_of, begin_at, taken_all}
use Rattle.network_model.specs.Calm.{carries, is_quiet}
use Rattle.network_model.specs.OnceEach.{LeftWithin, times_left}
use Rattle.network_model.specs.Packet.{arriving, packet_at, packet_work}
use Rattle.network_model.specs.Reach.{far_of, is_site}
use Rattle.network_model.specs.State.{NetworkState, without_number, without_packet}
use Rattle.network_model.specs.Window.{carried, is_row_of_service, is_sourced, packet_teaches}
use Rattle.network_model.proofs.AbsorbLemmas.{of_origin}
use Rattle.network_model.proofs.PacketListLemmas.{both_hold, packet_holds, packet_number, packets_of}
use Rattle.flight_laws.specs.Laws.{AreSettled}
use Rattle.flight_laws.proofs.RuledNetworkLemmas.{IsRuledNetwork}
use Rattle.flight_laws.proofs.RuledMendLemmas.{wire_fits}
use Rattle.packet_laws.specs.Carried.{IsCarried, KeepsPacketRule, FollowsPacketRule}
use Rattle.packet_laws.proofs.ArriveLemmas.{IsSized, same_entry}
use Rattle.packet_laws.proofs.SendLemmas.{copy_sender}
use Rattle.packet_laws.proofs.StepLemmas.{carried_of}
use Rattle.flood_laws.specs.Copy.{CarriesCopy, IsStill, IsStillEdge, copy_awaits, heading_on}
use Rattle.flood_laws.specs.Hops.{HasPassed, most_hops}
use Rattle.flood_laws.specs.Due.{awaits, serves_here, wires_due}
use Rattle.flood_laws.proofs.BridgeLemmas.{packet_meets}
use Rattle.flood_laws.proofs.ArrivalLemmas.{arrives_under, found_too}
use Rattle.flood_laws.proofs.CopyLemmas.{copies_carry, copy_arrives, copy_drops, copy_forwards, sent_ended, still_ends, still_placed}
use Rattle.flood_laws.proofs.LinkLemmas.{IsLink, last_ends, link_at}
use Rattle.flood_laws.proofs.PassingLemmas.{IsNotPassed, IsPassedOn, Passed, passed}
use Rattle.flood_laws.proofs.RelayLemmas.{relay_awaits, relay_copy, relay_passed}
use Rattle.flood_laws.proofs.StitchLemmas.{relay_bound}
use Rattle.flood_laws.proofs.HomeLemmas.{HasLoneSpokes, lone_placed}
use Rattle.flood_laws.proofs.JoinedLemmas.{IsSteady}
use Rattle.flood_laws.proofs.WireEdgeLemmas.{far_apart, far_of_far, far_of_near}
use Rattle.flood_laws.proofs.CountLemmas.{awaited, due, meets, sent_awaits}
use Rattle.flood_laws.proofs.EntryLemmas.{carried_within, group_unknown, unlearned_unknown}
use Rattle.flood_laws.proofs.HopLemmas.{hop_on, later_stage, sent_far, twelve_hops}
use Rattle.flood_laws.proofs.LawLemmas.{arrival_at, down_law}
use Rattle.flood_laws.proofs.OriginLemmas.{CopyGoes, copy_goes, has_number}
use Rattle.flood_laws.proofs.ServeLemmas.{Floods, FloodsBy, FloodsNot, IsNearCopy, Serves, copies_near, floods, serves_absorb}
use Rattle.flood_laws.proofs.SiteLemmas.{left_within, none_elsewhere, site_of, site_serves}
use Rattle.flood_laws.proofs.StillLemmas.{IsUnlearned}

-- a packet that is found among packets that teach nothing teaches nothing
found_not : (test : Packet → Bool) (number : ℕ) (packets : List Packet) (packet : Packet) → list_any test packets ≡ false → find (has_number number) packets ≡ Some packet → test packet ≡ false
found_not test number [] packet none found = absurd (cc (found))
found_not test number (p ∷ ps) packet none found = by (nat_eq p.number number) found (found_not test number ps packet (second_fails (test p) (list_any test ps) none)) where
  by : (here : Bool) → cond here (Some p) (find (has_number number) ps) ≡ Some packet → (find (has_number number) ps ≡ Some packet → test packet ≡ false) → test packet ≡ false
  by true is rest =
      let same : packet ≡ p = cc (is) in
      ap test same ∙ first_fails (test p) (list_any test ps) none
  by false is rest = rest is

-- in a state of a window, where a copy of the frame is found by its number
module _ (plan : Plan) (calm network : NetworkState) (trace : List Entry) (service : ServiceId) (frame : List ℕ) (origin number : ℕ) (packet : Packet)
    (checked : IsChecked plan) (steady : IsSteady plan calm service)
    (settled : (a b : ℕ) → are_joined_by plan service a b ≡ true → AreSettled plan calm a b) (sized : IsSized (mtu_of plan service) frame)
    (ruled : IsRuledNetwork plan network) (rule : KeepsPacketRule plan network trace) (still : IsStill calm network)
    (copies : AllByRecursion (IsNearCopy plan calm service frame) (of_origin origin network.under_way))
    (found : packet_at network number ≡ Some packet) (own : nat_eq packet.origin origin ≡ true) (framed : nat_eq packet.origin 0 ≡ false) where
  pub goes : CopyGoes (IsNearCopy plan calm service frame) plan calm service (of_origin origin network.under_way) (of_origin origin (without_number number network.under_way)) packet
  goes = copy_goes (IsNearCopy plan calm service frame) plan calm service origin number network.under_way packet copies found own

  pub copy : CarriesCopy plan calm service frame packet
  copy = goes.here.0

  pub rule_here : IsCarried plan network trace packet
  rule_here = carried_of plan network trace packet (packet_holds (FollowsPacketRule plan network trace) network number packet rule found) framed

  once : has_repeat copy.row.path ≡ false
  once = (wire_fits plan packet.wire copy.row checked copy.is).once

  rows : rule_here.row ≡ copy.row
  rows = same_row rule_here.row copy.row (sym rule_here.is ∙ copy.is)

  link : IsLink plan copy.row
  link = link_at plan packet.wire.0 copy.row checked copy.is

  -- ---- the terminal edges of its wire

  abbrev end_to : EdgeId
  end_to = goal copy.row.path packet.from packet.to

  abbrev end_from : EdgeId
  end_from = start copy.row.path packet.from packet.to

  heads : (circuit : CircuitId) → copy_awaits plan calm service circuit packet ≡ awaits plan calm service circuit end_to packet.wire
  heads circuit = ap (λ (o : Option WirePlan). awaits plan calm service circuit (heading_on o packet.from packet.to) packet.wire) copy.is

  calm_placed : (k : ℕ) → (calm.edges k).me ≡ record { 0 = k }
  calm_placed k = still_placed (calm.edges k) (network.edges k) (still.edges k) ∙ (ruled.edges k).place

  pub record HasEnds (one other : EdgeId) : Type 0 where
    pub ends : wire_ends_at service one.0 copy.row ≡ true
    pub far : far_of one.0 copy.row.path ≡ Some other.0
    pub whole : end_forwards plan (calm.edges one.0) packet.wire ≡ true → end_forwards plan (calm.edges other.0) packet.wire ≡ true → carries plan calm packet.wire.0 copy.row ≡ true

  from_both : end_forwards plan (calm.edges link.near.0) packet.wire ≡ true → end_forwards plan (calm.edges link.far.0) packet.wire ≡ true → carries plan calm packet.wire.0 copy.row ≡ true
  from_both up also = steady.whole packet.wire copy.row link copy.is copy.of_service up also

  up_at : (e f : EdgeId) → e ≡ f → end_forwards plan (calm.edges e.0) packet.wire ≡ true → end_forwards plan (calm.edges f.0) packet.wire ≡ true
  up_at e f same up = ap (λ (x : EdgeId). end_forwards plan (calm.edges x.0) packet.wire) (sym same) ∙ up

  lone : HasLoneSpokes plan calm service
  lone = lone_placed plan calm service checked calm_placed

  ends_near : wire_ends_at service link.near.0 copy.row ≡ true
  ends_near = rw (copy.of_service, link.path, eq-eqb link.near.0 link.near.0 refl) refl

  ends_far : wire_ends_at service link.far.0 copy.row ≡ true
  ends_far = rw (copy.of_service, link.path, far_apart plan copy.row link, link.last link.far.0, eq-eqb link.far.0 link.far.0 refl) refl

  to_far : (one other : EdgeId) → one ≡ link.far → other ≡ link.near → HasEnds one other
  to_far one other far near = record {
    ends = ap (λ (e : EdgeId). wire_ends_at service e.0 copy.row) far ∙ ends_far;
    far = ap (λ (e : EdgeId). far_of e.0 copy.row.path) far ∙ (far_of_far plan copy.row link ∙ ap (λ (e : EdgeId). Some e.0) (sym near));
    whole = λ there here. from_both (up_at other link.near near here) (up_at one link.far far there);
  }

  to_near : (one other : EdgeId) → one ≡ link.near → other ≡ link.far → HasEnds one other
  to_near one other near far = record {
    ends = ap (λ (e : EdgeId). wire_ends_at service e.0 copy.row) near ∙ ends_near;
    far = ap (λ (e : EdgeId). far_of e.0 copy.row.path) near ∙ (far_of_near plan copy.row link ∙ ap (λ (e : EdgeId). Some e.0) (sym far));
    whole = λ there here. from_both (up_at one link.near near there) (up_at other link.far far here);
  }

  last_far : (d : EdgeId) → last_or d copy.row.path ≡ link.far
  last_far d = ap (last_or d) link.path ∙ same (last_or d (link.near ∷ link.rest)) link.far (sym (last_ends d link.near link.rest) ∙ link.ends) where
    same : (a b : EdgeId) → Some a ≡ Some b → a ≡ b
    same a b e = cc

  first_near : (d : EdgeId) → first_or d copy.row.path ≡ link.near
  first_near d = ap (first_or d) link.path

  pub has_ends : HasEnds end_to end_from
  has_ends = by (follows copy.row.path packet.from.0 packet.to.0) refl where
    other_way : follows copy.row.path packet.from.0 packet.to.0 ≡ false → follows copy.row.path packet.to.0 packet.from.0 ≡ true
    other_way none = right (follows copy.row.path packet.from.0 packet.to.0) (follows copy.row.path packet.to.0 packet.from.0) none (sym (joins_is copy.row.path packet.from.0 packet.to.0) ∙ copy.joined) where
      right : (p q : Bool) → p ≡ false → p || q ≡ true → q ≡ true
      right true q none is = absurd (cc (none))
      right false q none is = is

    by : (b : Bool) → follows copy.row.path packet.from.0 packet.to.0 ≡ b → HasEnds end_to end_from
    by true on =
        to_far end_to end_from
        (ap (λ (b : Bool). cond b (last_or packet.to copy.row.path) (first_or packet.to copy.row.path)) on ∙ last_far packet.to)
        (ap (λ (b : Bool). cond b (last_or packet.from copy.row.path) (first_or packet.from copy.row.path)) (one_way copy.row.path packet.from.0 packet.to.0 once on) ∙ first_near packet.from)
    by false back =
        to_near end_to end_from
        (ap (λ (b : Bool). cond b (last_or packet.to copy.row.path) (first_or packet.to copy.row.path)) back ∙ first_near packet.to)
        (ap (λ (b : Bool). cond b (last_or packet.from copy.row.path) (first_or packet.from copy.row.path)) (other_way back) ∙ last_far packet.from)

  placed : (network.edges packet.to.0).me ≡ packet.to
  placed = (ruled.edges packet.to.0).place

  quiet : is_quiet plan calm service ≡ true
  quiet = steady.quiet

  -- ---- it goes

  abbrev base : NetworkState
  base = without_packet packet.number network

  abbrev work : Work
  work = packet_work plan network packet

  others : base.under_way ≡ without_number number network.under_way
  unfolding without_packet
  others = ap (λ (n : ℕ). without_number n network.under_way) (packet_number network number packet found)

  pub rest : AllByRecursion (IsNearCopy plan calm service frame) (of_origin origin base.under_way)
  rest = subst (λ (l : List Packet). AllByRecursion (IsNearCopy plan calm service frame) (of_origin origin l)) (sym others) goes.rest

  pub gone : (circuit : CircuitId) → due plan calm service circuit origin network ≡ cond (copy_awaits plan calm service circuit packet) 1 0 + due plan calm service circuit origin base
  gone circuit = goes.due circuit ∙ ap (λ (l : List Packet). cond {A = ℕ} (copy_awaits plan calm service circuit packet) 1 0 + awaited plan calm service circuit (of_origin origin l)) (sym others)

  -- the work has the number of the frame
  abbrev ServesHere : ℕ → Type 0
  ServesHere n = Serves plan calm service frame origin (λ circuit. due plan calm service circuit origin network) (absorb packet.to n packet.hops work base)

  numbered : ServesHere origin → ServesHere packet.origin
  numbered serves = subst ServesHere (sym (eqb-true packet.origin origin own)) serves

  -- what a drop gives out
  pub drop_gives : (why : DropCause) (me : EdgeId) → (drops why (begin_at network me)).effects ≡ effect.Dropped why ∷ []
  unfolding gives
  drop_gives why me = refl

  -- ---- at a terminal edge

  module _ (ended : is_terminal copy.row packet.to ≡ true) where
    pub ended_rule : is_terminal rule_here.row packet.to ≡ true
    ended_rule = ap (λ (r : WirePlan). is_terminal r packet.to) rows ∙ ended

    pub reached : end_to ≡ packet.to
    reached = goal_reached copy.row.path packet.from packet.to once copy.joined ended

    pub awaits_here : (circuit : CircuitId) → cond {A = ℕ} (copy_awaits plan calm service circuit packet) 1 0 ≡ cond {A = ℕ} (awaits plan calm service circuit packet.to packet.wire) 1 0
    awaits_here circuit = ap (λ (b : Bool). cond {A = ℕ} b 1 0) (heads circuit ∙ ap (λ (e : EdgeId). awaits plan calm service circuit e packet.wire) reached)

    pub ends : wire_ends_at service packet.to.0 copy.row ≡ true
    ends = ap (λ (e : EdgeId). wire_ends_at service e.0 copy.row) (sym reached) ∙ has_ends.ends

    pub far : far_of packet.to.0 copy.row.path ≡ Some end_from.0
    far = ap (λ (e : EdgeId). far_of e.0 copy.row.path) (sym reached) ∙ has_ends.far

    -- ---- where its wire's end does not forward, it is dropped

    pub dropping : (why : DropCause) → work.effects ≡ effect.Dropped why ∷ [] → end_forwards plan (calm.edges packet.to.0) packet.wire ≡ false → ServesHere origin
    dropping why is down =
        serves_absorb plan calm service frame origin (λ circuit. due plan calm service circuit origin network) packet.to packet.hops work base rest
        (λ sent. subst (λ (es : List Effect). AllByRecursion (IsNearCopy plan calm service frame) (packets_of packet.to origin packet.hops sent es)) (sym is) tt)
        (λ circuit site.
        let none : cond {A = ℕ} (awaits plan calm service circuit packet.to packet.wire) 1 0 ≡ 0 =
        ap (λ (b : Bool). cond {A = ℕ} b 1 0) (down_law plan calm service circuit packet.wire copy.row packet.to.0 end_from.0 checked copy.is ends far down copy.sends) in
        omega (arith, gone circuit, awaits_here circuit, none, ap (meets plan calm service circuit packet.to) is))
        (λ circuit other away. ap (λ (es : List Effect). times_left origin circuit (all_entries_of packet.to origin packet.hops es other)) is)
        (λ other. subst (λ (es : List Effect). LeftWithin 12 origin (all_entries_of packet.to origin packet.hops es other)) (sym is) tt)

    -- ---- where it forwards, the frame is flooded

    abbrev port : Option ℕ
    port = position (is_wire_port packet.wire) (ports_of plan service packet.to)

    module _ (takes : end_forwards plan (calm.edges packet.to.0) packet.wire ≡ true) where
      pub bridged : work ≡ forwarded plan taken_all (arrival.Wire packet.wire) service frame port (begin_at network packet.to)
      bridged = copy_arrives plan calm network trace service frame packet checked ruled still rule_here copy ended_rule takes

      pub live : carries plan calm packet.wire.0 copy.row ≡ true
      live = has_ends.whole (ap (λ (e : EdgeId). end_forwards plan (calm.edges e.0) packet.wire) reached ∙ takes) copy.sends

      pub come : packet.hops ≤ most_hops plan packet.from packet.to copy.row
      come = goes.here.1 copy.row copy.is

      -- the bridge knows no port for the destination
      unknown : (goes_to_group frame ≡ true) ⊎ IsUnlearned plan service (destination_of frame) network → (from : ℕ)
          → known_port (addresses_of (hearing service frame from (network.edges packet.to.0)) service) (destination frame) ≡ None
      unknown unlearned from = elim unlearned [
        | inl group ↦ group_unknown network service frame from packet.to.0 group
        | inr nowhere ↦
            (let untaught = found_not (packet_teaches plan service (destination_of frame)) number network.under_way packet nowhere.packets found in
            let of_service : is_row_of_service service (wire_row plan packet.wire) ≡ true = ap (is_row_of_service service) copy.is ∙ copy.of_service in
            let is_some : not (nat_eq packet.origin 0) ≡ true = ap not framed in
            let second : is_sourced (destination_of frame) (carried plan packet) ≡ false =
            second_fails_of_both (is_row_of_service service (wire_row plan packet.wire)) (is_sourced (destination_of frame) (carried plan packet)) of_service
            (second_fails_of_both (not (nat_eq packet.origin 0)) (is_row_of_service service (wire_row plan packet.wire) && is_sourced (destination_of frame) (carried plan packet)) is_some untaught) in
            let other : bytes_eq (source_of frame) (destination_of frame) ≡ false = ap (is_sourced (destination_of frame)) (sym copy.carries) ∙ second in
            unlearned_unknown plan network service frame from packet.to.0 nowhere other (carried_within plan network trace packet checked rule_here))
      ]

      met : (goes_to_group frame ≡ true) ⊎ IsUnlearned plan service (destination_of frame) network → (circuit : CircuitId) → meets plan calm service circuit packet.to work.effects
          ≡ cond (serves_here plan service (network.edges packet.to.0) circuit) 1 0 + wires_due plan calm service circuit packet.to.0 (Some packet.wire.0)
      met unlearned circuit =
          ap (λ (w : Work). meets plan calm service circuit packet.to w.effects) bridged
          ∙ (ap (λ (m : EdgeId). meets plan calm service circuit m
          (forwarded plan taken_all (arrival.Wire packet.wire) service frame (position (is_wire_port packet.wire) (ports_of plan service m)) (begin_at network packet.to)).effects) (sym placed)
          ∙ (packet_meets plan (arrival.Wire packet.wire) calm (network.edges packet.to.0) service packet.wire copy.row circuit frame checked copy.is
          (ap (λ (m : EdgeId). wire_ends_at service m.0 copy.row) placed ∙ ends)
          (subst (λ (m : EdgeId). IsStillEdge (calm.edges m.0) (network.edges packet.to.0)) (sym placed) (still.edges packet.to.0)) (unknown unlearned)
          ∙ ap (λ (m : EdgeId). cond {A = ℕ} (serves_here plan service (network.edges packet.to.0) circuit) 1 0 + wires_due plan calm service circuit m.0 (Some packet.wire.0)) placed))

      -- what was due by the copy is served here, or due by those that are sent on
      balanced : (goes_to_group frame ≡ true) ⊎ IsUnlearned plan service (destination_of frame) network → (circuit : CircuitId) → is_site plan calm service circuit ≡ true
          → due plan calm service circuit origin base + meets plan calm service circuit packet.to work.effects ≡ due plan calm service circuit origin network
      balanced unlearned circuit site =
          let at = site_of plan calm service circuit site in
          let law = arrival_at plan calm service circuit at.row packet.wire copy.row packet.to.0 end_from.0 checked lone at.is at.of_service copy.is ends far live in
          let served : cond {A = ℕ} (serves_here plan service (network.edges packet.to.0) circuit) 1 0 ≡ cond (nat_eq at.row.edge.0 packet.to.0) 1 0 =
          ap (λ (b : Bool). cond {A = ℕ} b 1 0) (site_serves plan calm service circuit (network.edges packet.to.0) packet.to.0 at (ap (λ (m : EdgeId). m.0) placed) (still.edges packet.to.0)) in
          omega (arith, gone circuit, awaits_here circuit, met unlearned circuit, law, served)

      -- what it sends has passed one segment more
      pub bound : (from : ℕ) → port ≡ Some from → (peer : EdgeId) (wire : WireId) (of_arrival : Arrival) (bytes : List ℕ)
          → SentCopy plan (network.edges packet.to.0) (arrival.Wire packet.wire) service frame from peer wire of_arrival bytes
          → (row : WirePlan) → wire_row plan wire ≡ Some row → packet.hops + 1 ≤ most_hops plan packet.to peer row
      bound from at peer wire of_arrival bytes sent row is =
          hop_on plan packet.wire wire copy.row row packet.from packet.to peer packet.hops checked copy.is is copy.joined reached joined next_ended
          (later_stage plan calm service packet.wire wire copy.row row packet.to.0 (goal row.path packet.to peer).0 checked (calm_placed packet.to.0) copy.is ends takes is
          (and_from (is_wire_of service row) (is_first packet.to.0 row.path || is_last packet.to.0 row.path)
          (eq-eqb row.service.0 service.0 (ap (λ (r : WirePlan). r.service.0) (sym next_rows) ∙ ap (λ (s : ServiceId). s.0) sent.same_service)) next_ended)
          (sent_far row.path packet.to peer (wire_fits plan wire row checked is).once joined next_ended)
          (copy_forwards plan calm network packet.to (arrival.Wire packet.wire) service frame from peer wire of_arrival bytes still sent)
          (sym (same_wire_port plan service (network.edges packet.to.0).me sent.p from wire.0 packet.wire.0 there here) ∙ sent.by.other) meshes)
          come
        where
          next_rows : sent.row ≡ row
          next_rows = same_row sent.row row (sym sent.is ∙ is)

          next_ended : is_first packet.to.0 row.path || is_last packet.to.0 row.path ≡ true
          next_ended = ap (λ (r : WirePlan). is_first packet.to.0 r.path || is_last packet.to.0 r.path) (sym next_rows)
              ∙ sent_ended plan network packet.to (arrival.Wire packet.wire) service frame from peer wire of_arrival bytes checked ruled sent

          here : LeadsToWire (ports_of plan service (network.edges packet.to.0).me) from packet.wire.0
          here = found_wire_port packet.wire (ports_of plan service (network.edges packet.to.0).me) from
              (ap (λ (m : EdgeId). position (is_wire_port packet.wire) (ports_of plan service m)) placed ∙ at)

          there : LeadsToWire (ports_of plan service (network.edges packet.to.0).me) sent.p wire.0
          there = record { is = ap wire_behind sent.by.at ∙ wire_leads wire.0 sent.row }

          joined : joins packet.to.0 peer.0 row.path ≡ true
          joined =
              ap (λ (r : WirePlan). joins packet.to.0 peer.0 r.path) (sym next_rows)
              ∙ (ap (λ (k : EdgeId). joins packet.to.0 k.0 sent.row.path) sent.same_peer
              ∙ (copy_sender plan network packet.to (arrival.Wire packet.wire) service frame from peer wire of_arrival bytes placed sent).joined)

          meshes : is_mesh_class copy.row.class && is_mesh_class row.class ≡ false
          meshes =
              ap (λ (b : Bool). b && is_mesh_class row.class) (sym (mesh_port (ports_of plan service (network.edges packet.to.0).me) from packet.wire.0 copy.row
              (wire_port_is plan service (network.edges packet.to.0).me from packet.wire.0 copy.row here copy.is)))
              ∙ (ap (λ (r : WirePlan). is_mesh_port (ports_of plan service (network.edges packet.to.0).me) from && is_mesh_class r.class) (sym next_rows)
              ∙ (ap (λ (b : Bool). is_mesh_port (ports_of plan service (network.edges packet.to.0).me) from && b)
              (sym (mesh_port (ports_of plan service (network.edges packet.to.0).me) sent.p wire.0 sent.row sent.by.at))
              ∙ sent.by.apart))

      pub flooding : Floods plan (network.edges packet.to.0) (arrival.Wire packet.wire) service frame port work.effects
      flooding = subst (λ (w : Work). Floods plan (network.edges packet.to.0) (arrival.Wire packet.wire) service frame port w.effects) (sym bridged)
          (floods plan (arrival.Wire packet.wire) service frame port (network.edges packet.to.0))

      pub sends : (sent : ℕ) → Floods plan (network.edges packet.to.0) (arrival.Wire packet.wire) service frame port work.effects
          → AllByRecursion (IsNearCopy plan calm service frame) (packets_of packet.to origin packet.hops sent work.effects)
      sends sent (FloodsNot none) = subst (λ (es : List Effect). AllByRecursion (IsNearCopy plan calm service frame) (packets_of packet.to origin packet.hops sent es)) (sym none) tt
      sends sent (FloodsBy from at all) =
          both_hold (CarriesCopy plan calm service frame) (HasPassed plan) (packets_of packet.to origin packet.hops sent work.effects)
          (copies_carry plan calm network packet.to origin packet.hops sent (arrival.Wire packet.wire) service frame from work.effects checked ruled still quiet settled sized all)
          (copies_near plan (network.edges packet.to.0) packet.to origin packet.hops sent (arrival.Wire packet.wire) service frame from work.effects (bound from at) all)

      pub nowhere_else : (circuit : CircuitId) (other : NetworkState) → is_site plan calm service circuit ≡ false
          → Floods plan (network.edges packet.to.0) (arrival.Wire packet.wire) service frame port work.effects
          → times_left origin circuit (all_entries_of packet.to origin packet.hops work.effects other) ≡ 0
      nowhere_else circuit other away (FloodsNot none) = ap (λ (es : List Effect). times_left origin circuit (all_entries_of packet.to origin packet.hops es other)) none
      nowhere_else circuit other away (FloodsBy from at all) =
          none_elsewhere plan calm network packet.to origin packet.hops (arrival.Wire packet.wire) service frame from circuit work.effects other placed (still.edges packet.to.0) away all

      flooded : (goes_to_group frame ≡ true) ⊎ IsUnlearned plan service (destination_of frame) network → ServesHere origin
      flooded unlearned =
          serves_absorb plan calm service frame origin (λ circuit. due plan calm service circuit origin network) packet.to packet.hops work base rest
          (λ sent. sends sent flooding) (balanced unlearned) (λ circuit other away. nowhere_else circuit other away flooding)
          (λ other. left_within 12 origin packet.hops packet.to origin work.effects other (twelve_hops plan packet.wire copy.row packet.from packet.to packet.hops checked copy.is copy.joined come))

    terminal_serves : (goes_to_group frame ≡ true) ⊎ IsUnlearned plan service (destination_of frame) network → ServesHere origin
    terminal_serves unlearned = elim (cases_Bool (end_forwards plan (calm.edges packet.to.0) packet.wire)) [
      | inl takes ↦ flooded takes unlearned
      | inr down ↦
          let dropped = copy_drops plan calm network trace service frame packet checked ruled still rule_here copy ended_rule down in
          dropping dropped.why (ap (λ (w : Work). w.effects) dropped.is ∙ drop_gives dropped.why packet.to) down
    ]

  -- ---- at a switching point

  module _ (between : is_terminal copy.row packet.to ≡ false) where
    between_rule : is_terminal rule_here.row packet.to ≡ false
    between_rule = ap (λ (r : WirePlan). is_terminal r packet.to) rows ∙ between

    abbrev here : EdgeState
    here = network.edges packet.to.0

    advertised : (here.ends packet.wire.0 packet.from.0).local ≡ Advertised rule_here.label copy.labelled.told
    advertised =
        ap (λ (f : ℕ → ℕ → EndState). (f packet.wire.0 packet.from.0).local) (still_ends (calm.edges packet.to.0) here (still.edges packet.to.0))
        ∙ (copy.labelled.advertised ∙ ap (λ (n : ℕ). Advertised n copy.labelled.told) (sym copy.labelled.same
        ∙ same_entry (entry_of packet.bytes) copy.labelled.entry (record { label = rule_here.label; bottom = true; ttl = rule_here.packed.ttl }) copy.labelled.read
        (arrives_under plan network trace packet checked ruled rule_here)))

    -- an end of the edge advertises its label
    advertises : {P : Type 0} → advertiser plan here rule_here.label ≡ None → P
    advertises none =
        let back : joins packet.to.0 packet.from.0 copy.row.path ≡ true = sym (joins_turned copy.row.path packet.from.0 packet.to.0) ∙ copy.joined in
        let end : NamedEnd plan packet.to packet.from packet.wire copy.row = end_of plan packet.to packet.from packet.wire copy.row checked copy.is back in
        let local : (end_at here end.place).local ≡ Advertised rule_here.label copy.labelled.told =
        ap (λ (w : WireId). (here.ends w.0 end.place.peer.0).local) end.wire_is ∙ (ap (λ (k : EdgeId). (here.ends packet.wire.0 k.0).local) end.peer_is ∙ advertised) in
        let passes : advertises_label rule_here.label (end_at here end.place).local ≡ true = ap (advertises_label rule_here.label) local ∙ eq-eqb rule_here.label rule_here.label refl in
        let (other, owner) = found_too (is_named packet.from copy.row.pw_id) (λ (p : EndPlace). advertises_label rule_here.label (end_at here p).local) (end_places plan here.me) end.place
        (ap (λ (k : EdgeId). find (is_named packet.from copy.row.pw_id) (end_places plan k)) placed ∙ end.named) passes in
        let wrong : None ≡ Some other = sym none ∙ owner in
        absurd (cc (wrong))

    -- where the wire carries frames the other side is bound
    holds : {P : Type 0} → carries plan calm packet.wire.0 copy.row ≡ true
        → ((to : EdgeId) → mate_on rule_here.row.path packet.to.0 packet.from.0 ≡ Some to → (here.ends packet.wire.0 to.0).remote ≡ None) → P
    holds live none =
        let apart = or_parts (is_first packet.to.0 copy.row.path) (is_last packet.to.0 copy.row.path) between in
        let (to, mate_is) = has_mate copy.row.path packet.from packet.to once copy.joined apart.0 apart.1 in
        let side = relay_bound plan calm packet.wire copy.row packet.to packet.from to checked (calm_placed packet.to.0) copy.is live mate_is in
        let unbound : ((calm.edges packet.to.0).ends packet.wire.0 to.0).remote ≡ None =
        ap (λ (f : ℕ → ℕ → EndState). (f packet.wire.0 to.0).remote) (sym (still_ends (calm.edges packet.to.0) here (still.edges packet.to.0)))
        ∙ none to (ap (λ (r : WirePlan). mate_on r.path packet.to.0 packet.from.0) rows ∙ mate_is) in
        let wrong : None ≡ Some side.binding = sym unbound ∙ side.bound in
        absurd (cc (wrong))

    -- so where it is dropped it has nothing to serve
    nothing : (advertiser plan here rule_here.label ≡ None) ⊎ ((to : EdgeId) → mate_on rule_here.row.path packet.to.0 packet.from.0 ≡ Some to → (here.ends packet.wire.0 to.0).remote ≡ None)
        → (circuit : CircuitId) → copy_awaits plan calm service circuit packet ≡ false
    nothing (inl none) circuit = advertises none
    nothing (inr none) circuit = heads circuit ∙ elim (cases_Bool (end_forwards plan (calm.edges end_to.0) packet.wire)) [
      | inl up ↦ holds (has_ends.whole up copy.sends) none
      | inr down ↦ down_law plan calm service circuit packet.wire copy.row end_to.0 end_from.0 checked copy.is has_ends.ends has_ends.far down copy.sends
    ]

    passing : Passed plan network trace packet checked ruled rule_here → ServesHere origin
    passing (IsNotPassed why is none) =
        let gives : work.effects ≡ effect.Dropped why ∷ [] = ap (λ (w : Work). w.effects) is ∙ drop_gives why packet.to in
        serves_absorb plan calm service frame origin (λ circuit. due plan calm service circuit origin network) packet.to packet.hops work base rest
        (λ sent. subst (λ (es : List Effect). AllByRecursion (IsNearCopy plan calm service frame) (packets_of packet.to origin packet.hops sent es)) (sym gives) tt)
        (λ circuit site.
        let zero_due : cond {A = ℕ} (copy_awaits plan calm service circuit packet) 1 0 ≡ 0 = ap (λ (b : Bool). cond {A = ℕ} b 1 0) (nothing none circuit) in
        omega (arith, gone circuit, zero_due, ap (meets plan calm service circuit packet.to) gives))
        (λ circuit other away. ap (λ (es : List Effect). times_left origin circuit (all_entries_of packet.to origin packet.hops es other)) gives)
        (λ other. subst (λ (es : List Effect). LeftWithin 12 origin (all_entries_of packet.to origin packet.hops es other)) (sym gives) tt)
    passing (IsPassedOn on) =
        serves_absorb plan calm service frame origin (λ circuit. due plan calm service circuit origin network) packet.to packet.hops work base rest
        (λ sent. subst (λ (es : List Effect). AllByRecursion (IsNearCopy plan calm service frame) (packets_of packet.to origin packet.hops sent es)) (sym on.effects) (
          subst (λ (n : ℕ). IsNearCopy plan calm service frame (record {
            number = sent + 1;
            wire = packet.wire;
            from = packet.to;
            to = on.to;
            origin = n;
            hops = packet.hops + 1;
            age = 0;
            bytes = relabelled on.binding.label (rule_here.packed.ttl - 1) packet.bytes;
          })) (eqb-true packet.origin origin own) (
            relay_copy plan network trace packet on.to on.binding (sent + 1) checked ruled rule_here on.mate_is on.bound calm service frame quiet settled held copy,
            relay_passed plan network trace packet on.to on.binding (sent + 1) checked ruled rule_here on.mate_is on.bound goes.here.1,
          ),
          tt,
        ))
        (λ circuit site.
        let same : cond {A = ℕ} (sent_awaits plan calm service circuit packet.to on.to packet.wire) 1 0 ≡ cond {A = ℕ} (copy_awaits plan calm service circuit packet) 1 0 =
        ap (λ (b : Bool). cond {A = ℕ} b 1 0) (relay_awaits plan network trace packet on.to on.binding 0 checked ruled rule_here on.mate_is on.bound calm service circuit) in
        omega (arith, gone circuit, same, ap (meets plan calm service circuit packet.to) on.effects))
        (λ circuit other away. ap (λ (es : List Effect). times_left origin circuit (all_entries_of packet.to origin packet.hops es other)) on.effects)
        (λ other. subst (λ (es : List Effect). LeftWithin 12 origin (all_entries_of packet.to origin packet.hops es other)) (sym on.effects) tt)
      where
        held : ((calm.edges packet.to.0).ends packet.wire.0 on.to.0).remote ≡ Some on.binding
        held = ap (λ (f : ℕ → ℕ → EndState). (f packet.wire.0 on.to.0).remote) (sym (still_ends (calm.edges packet.to.0) here (still.edges packet.to.0))) ∙ on.bound

    pub switching_serves : ServesHere origin
    switching_serves = passing (passed plan network trace packet checked ruled rule_here between_rule)

  -- what was due by the copies before it arrived is served, or due by those after it
  pub arriving_serves : (goes_to_group frame ≡ true) ⊎ IsUnlearned plan service (destination_of frame) network
      → Serves plan calm service frame origin (λ circuit. due plan calm service circuit origin network) (arriving plan packet network)
  arriving_serves unlearned = numbered (elim (cases_Bool (is_terminal copy.row packet.to)) [
    | inl ended ↦ terminal_serves ended unlearned
    | inr between ↦ switching_serves between
  ])
