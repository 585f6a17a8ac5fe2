-- An edge works on a frame or a packet in a stretch: what it learns points to its site, and what it sends comes from where its frame
-- entered.
use Rattle.std.proofs.Common.{◌+◌, ◌-◌, ◌≡◌, ◌&&◌, ◌∙◌, ℕ, Bool, true, false, List, [], ◌∷◌, Option, Some, None, Result, Ok, Err, cond, option_map, nat_eq, position, slice_get, refl, sym, subst, ap, inl, inr, ◌==◌}
use Rattle.std.proofs.lemmas.Bool.{cases_Bool, eq-eqb, eqb-true}
use Rattle.std.specs.List.{AllByRecursion}
use Rattle.net_base.specs.declared.plan.Plan.{Plan}
use Rattle.net_base.specs.declared.plan.circuit_plan.CircuitPlan.{CircuitPlan}
use Rattle.net_base.specs.declared.plan.places.CircuitId.{CircuitId}
use Rattle.net_base.specs.declared.plan.places.EdgeId.{EdgeId}
use Rattle.net_base.specs.declared.plan.places.ServiceId.{ServiceId}
use Rattle.net_base.specs.declared.trace.arrival.Arrival.{Arrival}
use Rattle.net_base.specs.declared.trace.arrival.Arrival.TheVariants as arrival
use Rattle.net_base.specs.declared.trace.drop_cause.DropCause.{DropCause}
use Rattle.net_base.specs.declared.trace.entry.Entry.{Entry}
use Rattle.net_base.specs.declared.trace.entry.Entry.TheVariants.{In}
use Rattle.net_base.specs.plan.Accepted.{IsChecked}
use Rattle.net_base.specs.plan.Places.{circuit_row, mtu_of, service_of}
use Rattle.net_base.specs.trace.Isolated.{Among, inner_at}
use Rattle.net_base.specs.trace.Frame.{source_of}
use Rattle.net_values.specs.Mac.{is_group_address}
use Rattle.hvpls_spokes.specs.declared.port.Port.TheVariants as port
use Rattle.hvpls_spokes.specs.Port.{is_circuit_port, is_wire_port, ports_of, wire_port}
use Rattle.hvpls_spokes.proofs.PortsLemmas.{LeadsTo, found_port}
use Rattle.hvpls_spokes.proofs.WirePortLemmas.{found_wire_port, wire_port_is}
use Rattle.pw_stitch.specs.Relabelling.{relabelled}
use Rattle.edge_model.specs.Copies.{AllAreCopies}
use Rattle.edge_model.specs.declared.effect.Effect.{Effect}
use Rattle.edge_model.specs.declared.effect.Effect.TheVariants as effect
use Rattle.edge_model.specs.Ends.{end_forwards}
use Rattle.edge_model.specs.Frame.{forwarded, is_own, port_at, received, source}
use Rattle.edge_model.specs.Send.{drops}
use Rattle.edge_model.specs.State.{EdgeState, is_on}
use Rattle.edge_model.specs.Work.{Work, gives, idles}
use Rattle.edge_model.proofs.CopyLemmas.{forwards_copies}
use Rattle.network_model.specs.declared.packet.Packet.{Packet}
use Rattle.network_model.specs.Absorb.{begin_at, taken_all}
use Rattle.network_model.specs.Calm.{is_calm}
use Rattle.network_model.specs.Frame.{frame_work}
use Rattle.network_model.specs.Packet.{packet_work}
use Rattle.network_model.specs.Reach.{is_circuit_of, reach}
use Rattle.network_model.specs.State.{NetworkState, edge_at}
use Rattle.network_model.specs.Window.{carried}
use Rattle.network_model.proofs.PacketListLemmas.{packets_of}
use Rattle.flight_laws.proofs.RuledNetworkLemmas.{IsRuledNetwork}
use Rattle.flight_laws.proofs.PlaceLemmas.{same_row}
use Rattle.flight_laws.proofs.RuledMendLemmas.{wire_fits}
use Rattle.packet_laws.specs.Carried.{IsCarried}
use Rattle.packet_laws.specs.Echoed.{IsEchoed}
use Rattle.packet_laws.proofs.ArriveLemmas.{IsSized, come_sized, same_frame}
use Rattle.packet_laws.proofs.SendLemmas.{HasCome}
use Rattle.flood_laws.specs.Copy.{IsStill}
use Rattle.net_base.specs.declared.plan.wire_plan.WirePlan.{WirePlan}
use Rattle.network_model.specs.Goal.{goal}
use Rattle.network_model.proofs.GoalLemmas.{goal_reached}
use Rattle.edge_model.specs.EndPlaces.{is_terminal}
use Rattle.packet_laws.proofs.EchoArriveLemmas.{echo_unheard}
use Rattle.flood_laws.proofs.PassingLemmas.{IsNotPassed, IsPassedOn, Passed, PassedOn, passed, passed_carries}
use Rattle.flood_laws.proofs.RelayLemmas.{same_goal}
use Rattle.flood_laws.proofs.ArrivalLemmas.{Arrived, NotTaken, Taken, arrived, arrives_sized, arrives_with}
use Rattle.flood_laws.proofs.CopyLemmas.{still_forwards}
use Rattle.address_laws.specs.Points.{PointsToSite}
use Rattle.address_laws.specs.Sites.{CameFromSite, OneSite, Sites}
use Rattle.address_laws.proofs.HeardLemmas.{hearing_holds}
use Rattle.address_laws.proofs.SideLemmas.{ComesBehind, HasSide, KnowsSide, copies_away, copies_side}

-- ---- sites

-- what holds of each entry of a trace holds of one among them
came_at : (plan : Plan) (service : ServiceId) (site : Sites) (entry : Entry) (told : List Entry) → OneSite plan service site told → Among entry told
    → CameFromSite plan service site entry
came_at plan service site entry [] one among = absurd among
came_at plan service site entry (e ∷ es) one among = elim among [
  | inl here ↦ subst (CameFromSite plan service site) (sym here) one.0
  | inr later ↦ came_at plan service site entry es one.1 later
]

-- a frame that has come is of a station whose site is where it entered
site_is : (plan : Plan) (service : ServiceId) (site : Sites) (told : List Entry) (origin : ℕ) (frame : List ℕ) → OneSite plan service site told
    → (come : HasCome plan told service origin frame)
    → is_group_address (source_of frame) ≡ false → site (source_of frame) ≡ come.sender
site_is plan service site told origin frame one come single =
    came_at plan service site (In come.sender origin come.octets) told one come.told frame come.of_service come.formed single

-- ---- an edge at work

-- each address that it has learned in the service points to its site, and each packet that it sends comes from where its frame
-- entered
pub record WorksRight (plan : Plan) (calm : NetworkState) (service : ServiceId) (site : Sites) (told : List Entry) (me : EdgeId) (origin : ℕ) (work : Work) : Type 0 where
  pub table : AllByRecursion (PointsToSite plan calm service site me.0) (work.edge.learned service.0)
  pub sent : (hops sent : ℕ) → AllByRecursion (KnowsSide plan calm service told) (packets_of me origin hops sent work.effects)

module _ (plan : Plan) (calm network : NetworkState) (service : ServiceId) (site : Sites) (told : List Entry) (me : EdgeId) (origin : ℕ)
    (checked : IsChecked plan) (calmed : is_calm plan calm service ≡ true) (one : OneSite plan service site told)
    (ruled : IsRuledNetwork plan network) (still : IsStill calm network)
    (before : AllByRecursion (PointsToSite plan calm service site me.0) ((network.edges me.0).learned service.0)) where
  abbrev Right : Work → Type 0
  Right work = WorksRight plan calm service site told me origin work

  right_same : Right (begin_at network me)
  right_same = record { table = before; sent = λ hops sent. tt }

  right_idle : Right (idles (begin_at network me))
  unfolding idles
  right_idle = record { table = before; sent = λ hops sent. tt }

  right_dropped : (why : DropCause) → Right (drops why (begin_at network me))
  unfolding gives
  right_dropped why = record { table = before; sent = λ hops sent. tt }

  -- what a frame teaches that came from behind a port
  teaches : (frame : List ℕ) (from tick : ℕ) → ComesBehind plan calm service told me origin frame from → is_group_address (source_of frame) ≡ false
      → PointsToSite plan calm service site me.0 (record { address = source frame; port = from; tick = tick })
  teaches frame from tick behind single = record {
    port = behind.port;
    at = behind.at;
    reaches = ap (reach plan calm service me.0 behind.port) (site_is plan service site told origin frame one behind.come single) ∙ behind.behind;
  }

  -- copies of a frame of the service, or of another one
  sends : (came : Arrival) (of : ServiceId) (frame : List ℕ) (from : ℕ) (es : List Effect) → IsSized (mtu_of plan of) frame
      → (nat_eq of.0 service.0 ≡ true → ComesBehind plan calm service told me origin frame from)
      → AllAreCopies plan (network.edges me.0) came of frame from es → (hops sent : ℕ)
      → AllByRecursion (KnowsSide plan calm service told) (packets_of me origin hops sent es)
  sends came of frame from es sized behind all hops sent = elim (cases_Bool (nat_eq of.0 service.0)) [
    | inl same ↦
        (let is : of ≡ service = ap (λ (n : ℕ). record { 0 = n }) (eqb-true of.0 service.0 same) in
        copies_side plan calm network service told me origin came frame from checked calmed ruled still
        (subst (λ (s : ServiceId). IsSized (mtu_of plan s) frame) is sized) (behind same) hops sent es
        (subst (λ (s : ServiceId). AllAreCopies plan (network.edges me.0) came s frame from es) is all))
    | inr other ↦ copies_away plan calm network service of told me origin hops sent came frame from es checked ruled sized other all
  ]

  -- a frame is bridged
  right_forwarded : (came : Arrival) (of : ServiceId) (frame : List ℕ) (from : ℕ) → IsSized (mtu_of plan of) frame
      → (nat_eq of.0 service.0 ≡ true → ComesBehind plan calm service told me origin frame from)
      → Right (forwarded plan taken_all came of frame (Some from) (begin_at network me))
  right_forwarded came of frame from sized behind =
      let copied = forwards_copies plan taken_all came of frame from (begin_at network me) in
      record {
        table = subst (λ (e : EdgeState). AllByRecursion (PointsToSite plan calm service site me.0) (e.learned service.0)) (sym copied.heard)
            (hearing_holds (PointsToSite plan calm service site me.0) (network.edges me.0) of service frame from before
            (λ same single. teaches frame from (network.edges me.0).ticks (behind same) single));
        sent = λ hops sent. subst (λ (es : List Effect). AllByRecursion (KnowsSide plan calm service told) (packets_of me origin hops sent es)) (sym copied.joined)
            (sends came of frame from copied.more sized behind copied.all hops sent);
      }

  -- what is received by a port, or by none
  right_received : (came : Arrival) (of : ServiceId) (from : Option ℕ) (read : Result (List ℕ) DropCause)
      → ((frame : List ℕ) → read ≡ Ok frame → IsSized (mtu_of plan of) frame)
      → ((frame : List ℕ) (p : ℕ) → read ≡ Ok frame → from ≡ Some p → nat_eq of.0 service.0 ≡ true → ComesBehind plan calm service told me origin frame p)
      → Right (received plan taken_all came of from read (begin_at network me))
  right_received came of None (Ok frame) sized behind = right_same
  right_received came of (Some p) (Ok frame) sized behind = right_forwarded came of frame p (sized frame refl) (λ same. behind frame p refl refl same)
  right_received came of from (Err why) sized behind = right_dropped why

-- ---- on a frame

module _ (plan : Plan) (calm network : NetworkState) (service : ServiceId) (site : Sites) (told : List Entry) (circuit : CircuitId) (octets : List ℕ)
    (row : CircuitPlan) (origin : ℕ)
    (checked : IsChecked plan) (calmed : is_calm plan calm service ≡ true) (one : OneSite plan service site told)
    (ruled : IsRuledNetwork plan network) (still : IsStill calm network)
    (before : AllByRecursion (PointsToSite plan calm service site row.edge.0) ((network.edges row.edge.0).learned service.0))
    (is : circuit_row plan circuit ≡ Some row) (entered : Among (In circuit origin octets) told) (numbered : (origin == 0) ≡ false) where
  frame_sized : (frame : List ℕ) → inner_at plan circuit octets ≡ Ok frame → IsSized (mtu_of plan row.service) frame
  frame_sized frame formed = come_sized plan (In circuit 1 octets ∷ []) row.service 1 frame (record {
    numbered = refl;
    sender = circuit;
    octets = octets;
    told = inl refl;
    of_service = ap (λ (r : Option CircuitPlan). option_map (λ (c : CircuitPlan). c.service) r) is;
    formed = formed;
  })

  -- it came by its circuit
  frame_behind : (frame : List ℕ) (p : ℕ) → inner_at plan circuit octets ≡ Ok frame → port_at plan (edge_at network row.edge) circuit row ≡ Some p
      → nat_eq row.service.0 service.0 ≡ true
      → ComesBehind plan calm service told row.edge origin frame p
  frame_behind frame p formed found same = record {
    come = record { numbered = numbered; sender = circuit; octets = octets; told = entered; of_service = owner; formed = formed };
    port = port.Circuit circuit;
    at = leads.is;
    behind = itself;
  }
    where
      service_is : row.service ≡ service
      service_is = ap (λ (n : ℕ). record { 0 = n }) (eqb-true row.service.0 service.0 same)

      owner : service_of plan circuit ≡ Some service
      owner = ap (λ (r : Option CircuitPlan). option_map (λ (c : CircuitPlan). c.service) r) is ∙ ap Some service_is

      leads : LeadsTo (ports_of plan service row.edge) p circuit.0
      leads = found_port circuit (ports_of plan service row.edge) p
          (ap (λ (s : ServiceId). position (is_circuit_port circuit) (ports_of plan s row.edge)) (sym service_is)
          ∙ (ap (λ (k : EdgeId). position (is_circuit_port circuit) (ports_of plan row.service k)) (sym (ruled.edges row.edge.0).place) ∙ found))

      itself : is_circuit_of plan service circuit && nat_eq circuit.0 circuit.0 ≡ true
      itself = rw (is, same, eq-eqb circuit.0 circuit.0 refl) refl

  -- where its edge takes it
  abbrev taken : Work
  taken = received plan taken_all (arrival.Circuit circuit) row.service (port_at plan (edge_at network row.edge) circuit row) (inner_at plan circuit octets) (begin_at network row.edge)

  pub frame_right : WorksRight plan calm service site told row.edge origin (frame_work plan network circuit octets row)
  frame_right = by (is_own (edge_at network row.edge) row && is_on (edge_at network row.edge) circuit) where
    by : (applies : Bool) → WorksRight plan calm service site told row.edge origin (cond applies taken (idles (begin_at network row.edge)))
    by true = right_received plan calm network service site told row.edge origin checked calmed one ruled still before (arrival.Circuit circuit) row.service
        (port_at plan (edge_at network row.edge) circuit row) (inner_at plan circuit octets) frame_sized frame_behind
    by false = right_idle plan calm network service site told row.edge origin checked calmed one ruled still before

-- ---- on a packet

module _ (plan : Plan) (calm network : NetworkState) (service : ServiceId) (site : Sites) (told trace : List Entry) (packet : Packet)
    (checked : IsChecked plan) (calmed : is_calm plan calm service ≡ true) (one : OneSite plan service site told)
    (ruled : IsRuledNetwork plan network) (still : IsStill calm network)
    (before : AllByRecursion (PointsToSite plan calm service site packet.to.0) ((network.edges packet.to.0).learned service.0))
    (rule : IsCarried plan network trace packet) (knows : KnowsSide plan calm service told packet) where
  -- where its wire's end forwards, it came by a port behind which its frame entered
  packet_behind : is_terminal rule.row packet.to ≡ true → end_forwards plan (network.edges packet.to.0) packet.wire ≡ true → (p : ℕ)
      → position (is_wire_port packet.wire) (ports_of plan rule.row.service packet.to) ≡ Some p
      → nat_eq rule.row.service.0 service.0 ≡ true → ComesBehind plan calm service told packet.to packet.origin rule.frame p
  packet_behind ended forwards p found same = record {
    come = record {
      numbered = side.come.numbered;
      sender = side.come.sender;
      octets = side.come.octets;
      told = side.come.told;
      of_service = side.come.of_service;
      formed = side.come.formed ∙ ap Ok frame_is;
    };
    port = wire_port packet.wire.0 rule.row;
    at = subst (λ (s : ServiceId). slice_get (ports_of plan s packet.to) p ≡ Some (wire_port packet.wire.0 rule.row)) service_is
        (wire_port_is plan rule.row.service packet.to p packet.wire.0 rule.row (found_wire_port packet.wire (ports_of plan rule.row.service packet.to) p found) rule.is);
    behind = ap (λ (e : EdgeId). reach plan calm service e.0 (wire_port packet.wire.0 rule.row) side.come.sender) (sym reached)
        ∙ side.behind (ap (λ (e : EdgeId). end_forwards plan (calm.edges e.0) packet.wire) reached
        ∙ (sym (still_forwards plan (calm.edges packet.to.0) (network.edges packet.to.0) packet.wire (still.edges packet.to.0)) ∙ forwards));
  }
    where
      reached : goal rule.row.path packet.from packet.to ≡ packet.to
      reached = goal_reached rule.row.path packet.from packet.to (wire_fits plan packet.wire rule.row checked rule.is).once rule.joined ended

      side : HasSide plan calm service told packet rule.row
      side = knows rule.entered.numbered rule.row rule.is same

      frame_is : side.frame ≡ rule.frame
      frame_is = same_frame (carried plan packet) side.frame rule.frame side.carries (arrives_with plan network trace packet checked ruled rule)

      service_is : rule.row.service ≡ service
      service_is = ap (λ (n : ℕ). record { 0 = n }) (eqb-true rule.row.service.0 service.0 same)

  pub packet_right : WorksRight plan calm service site told packet.to packet.origin (packet_work plan network packet)
  packet_right = choose (is_terminal rule.row packet.to) refl where
    by : is_terminal rule.row packet.to ≡ true → Arrived plan network packet rule.row rule.frame → WorksRight plan calm service site told packet.to packet.origin (packet_work plan network packet)
    by ended (NotTaken dropped) = subst (WorksRight plan calm service site told packet.to packet.origin) (sym dropped.is)
        (right_dropped plan calm network service site told packet.to packet.origin checked calmed one ruled still before dropped.why)
    by ended (Taken taken) = subst (WorksRight plan calm service site told packet.to packet.origin)
        (sym (taken.work ∙ ap (λ (o : Option ℕ). forwarded plan taken_all (arrival.Wire packet.wire) rule.row.service rule.frame o (begin_at network packet.to)) taken.found))
        (right_forwarded plan calm network service site told packet.to packet.origin checked calmed one ruled still before
        (arrival.Wire packet.wire) rule.row.service rule.frame taken.port
        (arrives_sized plan network trace packet checked ruled rule) (λ same. packet_behind ended taken.forwards taken.port taken.found same))

    on_side : (on : PassedOn plan network trace packet checked ruled rule) (number hops : ℕ)
        → KnowsSide plan calm service told (record {
          number = number;
          wire = packet.wire;
          from = packet.to;
          to = on.to;
          origin = packet.origin;
          hops = hops;
          age = 0;
          bytes = relabelled on.binding.label (rule.packed.ttl - 1) packet.bytes;
        })
    on_side on number hops numbered row is ours =
        let side : HasSide plan calm service told packet row = knows numbered row is ours in
        let same : rule.row ≡ row = same_row rule.row row (sym rule.is ∙ is) in
        let goals : goal row.path packet.to on.to ≡ goal row.path packet.from packet.to =
        subst (λ (r : WirePlan). goal r.path packet.to on.to ≡ goal r.path packet.from packet.to) same
        (same_goal plan network trace packet on.to on.binding number checked ruled rule on.mate_is on.bound) in
        record {
          frame = side.frame;
          come = side.come;
          carries = passed_carries plan network trace packet checked ruled rule on number packet.origin hops ∙ side.carries;
          behind = λ there. ap (λ (e : EdgeId). reach plan calm service e.0 (wire_port packet.wire.0 row) side.come.sender) goals
              ∙ side.behind (ap (λ (e : EdgeId). end_forwards plan (calm.edges e.0) packet.wire) (sym goals) ∙ there);
        }

    passing : Passed plan network trace packet checked ruled rule → WorksRight plan calm service site told packet.to packet.origin (packet_work plan network packet)
    passing (IsNotPassed why is none) = subst (WorksRight plan calm service site told packet.to packet.origin) (sym is)
        (right_dropped plan calm network service site told packet.to packet.origin checked calmed one ruled still before why)
    passing (IsPassedOn on) = record {
      table = subst (λ (e : EdgeState). AllByRecursion (PointsToSite plan calm service site packet.to.0) (e.learned service.0)) (sym on.edge) before;
      sent = λ hops sent. subst (λ (es : List Effect). AllByRecursion (KnowsSide plan calm service told) (packets_of packet.to packet.origin hops sent es)) (sym on.effects)
          (on_side on (sent + 1) (hops + 1), tt);
    }

    choose : (b : Bool) → is_terminal rule.row packet.to ≡ b → WorksRight plan calm service site told packet.to packet.origin (packet_work plan network packet)
    choose true ended = by ended (arrived plan network trace packet checked ruled rule ended)
    choose false between = passing (passed plan network trace packet checked ruled rule between)

-- ---- on a ping or an answer

-- what has no number of a frame comes from no side
unnumbered_sides : (plan : Plan) (calm : NetworkState) (service : ServiceId) (told : List Entry) (me : EdgeId) (origin hops sent : ℕ) (es : List Effect) → origin ≡ 0
    → AllByRecursion (KnowsSide plan calm service told) (packets_of me origin hops sent es)
unnumbered_sides plan calm service told me origin hops sent [] none = tt
unnumbered_sides plan calm service told me origin hops sent (effect.Sent peer wire came octets ∷ es) none = (
  λ numbered row is ours. absurd (cc (sym numbered ∙ ap (λ (n : ℕ). n == 0) none)),
  unnumbered_sides plan calm service told me origin hops (sent + 1) es none,
)
unnumbered_sides plan calm service told me origin hops sent (effect.Said peer octets ∷ es) none = unnumbered_sides plan calm service told me origin hops sent es none
unnumbered_sides plan calm service told me origin hops sent (effect.Left at octets ∷ es) none = unnumbered_sides plan calm service told me origin hops sent es none
unnumbered_sides plan calm service told me origin hops sent (effect.Dropped why ∷ es) none = unnumbered_sides plan calm service told me origin hops sent es none
unnumbered_sides plan calm service told me origin hops sent (effect.Session peer state ∷ es) none = unnumbered_sides plan calm service told me origin hops sent es none
unnumbered_sides plan calm service told me origin hops sent (effect.Wire wire down ∷ es) none = unnumbered_sides plan calm service told me origin hops sent es none
unnumbered_sides plan calm service told me origin hops sent (effect.Pong wire sequence ∷ es) none = unnumbered_sides plan calm service told me origin hops sent es none
unnumbered_sides plan calm service told me origin hops sent (effect.Closed peer ∷ es) none = unnumbered_sides plan calm service told me origin hops sent es none

-- no bridge hears it
pub echo_works : (plan : Plan) (calm network : NetworkState) (service : ServiceId) (site : Sites) (told : List Entry) (packet : Packet) → IsChecked plan → IsRuledNetwork plan network
    → AllByRecursion (PointsToSite plan calm service site packet.to.0) ((network.edges packet.to.0).learned service.0) → IsEchoed plan network packet
    → WorksRight plan calm service site told packet.to packet.origin (packet_work plan network packet)
echo_works plan calm network service site told packet checked ruled before echo = record {
  table = subst (λ (e : EdgeState). AllByRecursion (PointsToSite plan calm service site packet.to.0) (e.learned service.0)) (sym (echo_unheard plan network packet checked ruled echo)) before;
  sent = λ hops sent. unnumbered_sides plan calm service told packet.to packet.origin hops sent (packet_work plan network packet).effects echo.unnumbered;
}
