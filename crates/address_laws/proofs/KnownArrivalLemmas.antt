-- A copy of a frame to a known station arrives: its edge serves the station's site or sends the copy on towards it, and serves no
-- other site for which the copy was not due.
use Rattle.std.proofs.Common.{◌≡◌, ◌<◌, ◌+◌, ◌&&◌, ◌∙◌, ℕ, Bool, true, false, List, Option, Some, cond, length, nat_eq, position, refl, ap, sym, subst, inl, inr, arith}
use Rattle.std.proofs.lemmas.Bool.{cases_Bool, eqb-true}
use Rattle.std.specs.List.{AllByRecursion}
use Rattle.net_base.specs.declared.plan.Plan.{Plan}
use Rattle.net_base.specs.declared.plan.places.CircuitId.{CircuitId}
use Rattle.net_base.specs.declared.plan.places.EdgeId.{EdgeId}
use Rattle.net_base.specs.declared.plan.places.ServiceId.{ServiceId}
use Rattle.net_base.specs.declared.trace.arrival.Arrival.TheVariants as arrival
use Rattle.net_base.specs.declared.trace.entry.Entry.{Entry}
use Rattle.net_base.specs.plan.Accepted.{IsChecked}
use Rattle.net_base.specs.plan.Places.{mtu_of}
use Rattle.net_base.specs.plan.Roles.{are_joined_by, has_port, wire_ends_at}
use Rattle.net_base.specs.trace.Frame.{destination_of}
use Rattle.hvpls_spokes.specs.Port.{is_wire_port, ports_of}
use Rattle.vsi_bridge.specs.Targets.{known_port}
use Rattle.edge_model.specs.Ends.{end_forwards}
use Rattle.edge_model.specs.Frame.{destination, forwarded, hearing}
use Rattle.edge_model.specs.State.{addresses_of}
use Rattle.edge_model.specs.Work.{Work}
use Rattle.network_model.specs.declared.packet.Packet.{Packet}
use Rattle.network_model.specs.Absorb.{absorb, begin_at, taken_all}
use Rattle.network_model.specs.Calm.{is_calm}
use Rattle.network_model.specs.Packet.{arriving, packet_at, packet_work}
use Rattle.network_model.specs.Reach.{is_site}
use Rattle.network_model.specs.State.{NetworkState, without_packet}
use Rattle.network_model.proofs.AbsorbLemmas.{of_origin}
use Rattle.flight_laws.specs.Laws.{AreSettled}
use Rattle.flight_laws.proofs.RuledNetworkLemmas.{IsRuledNetwork}
use Rattle.packet_laws.specs.Carried.{KeepsPacketRule}
use Rattle.packet_laws.proofs.ArriveLemmas.{IsSized}
use Rattle.flood_laws.specs.Copy.{CarriesCopy, IsStill, IsStillEdge}
use Rattle.flood_laws.specs.Due.{serves_here, wires_due}
use Rattle.flood_laws.proofs.CopyLemmas.{copy_drops, still_placed}
use Rattle.flood_laws.proofs.JoinedLemmas.{IsSteady, calm_steady}
use Rattle.flood_laws.proofs.CountLemmas.{due, meets}
use Rattle.flood_laws.proofs.EntryLemmas.{carried_within}
use Rattle.flood_laws.proofs.HopLemmas.{twelve_hops}
use Rattle.flood_laws.proofs.ServeArrivalLemmas as serve
use Rattle.edge_model.specs.EndPlaces.{is_terminal}
use Rattle.network_model.specs.Goal.{start}
use Rattle.flood_laws.proofs.LawLemmas.{arrival_law}
use Rattle.flood_laws.proofs.MeshLemmas.{port_at}
use Rattle.flood_laws.proofs.ServeLemmas.{IsNearCopy, Serves, serves_absorb}
use Rattle.flood_laws.proofs.SiteLemmas.{left_within, site_of, site_serves}
use Rattle.address_laws.specs.Points.{Points}
use Rattle.address_laws.specs.Sites.{Sites}
use Rattle.address_laws.proofs.KnownBridgeLemmas.{ServesAsFlood, packet_serves}
use Rattle.address_laws.proofs.KnownLeadLemmas.{LeadsToSite}
use Rattle.address_laws.proofs.KnownPointLemmas.{arriving_leads}
use Rattle.address_laws.proofs.KnownServeLemmas.{ServesSite, serves_each}

-- in a state of a stretch, where a copy of the frame is found by its number
module _ (plan : Plan) (calm network : NetworkState) (trace : List Entry) (service : ServiceId) (site : Sites) (frame : List ℕ) (origin number : ℕ) (packet : Packet)
    (checked : IsChecked plan) (calmed : is_calm plan calm service ≡ true)
    (settled : (a b : ℕ) → are_joined_by plan service a b ≡ true → AreSettled plan calm a b) (sized : IsSized (mtu_of plan service) frame)
    (ruled : IsRuledNetwork plan network) (rule : KeepsPacketRule plan network trace) (still : IsStill calm network)
    (on : is_site plan calm service (site (destination_of frame)) ≡ true) (points : Points plan (arriving plan packet network).state service site)
    (copies : AllByRecursion (IsNearCopy plan calm service frame) (of_origin origin network.under_way))
    (found : packet_at network number ≡ Some packet) (own : nat_eq packet.origin origin ≡ true) (framed : nat_eq packet.origin 0 ≡ false) where
  abbrev target : CircuitId
  target = site (destination_of frame)

  steady : IsSteady plan calm service
  steady = calm_steady plan calm service checked calmed (λ k. still_placed (calm.edges k) (network.edges k) (still.edges k) ∙ (ruled.edges k).place)

  abbrev copy : CarriesCopy plan calm service frame packet
  copy = serve.copy plan calm network trace service frame origin number packet checked steady settled sized ruled rule still copies found own framed

  placed : (network.edges packet.to.0).me ≡ packet.to
  placed = (ruled.edges packet.to.0).place

  -- ---- it goes

  abbrev base : NetworkState
  base = without_packet packet.number network

  abbrev work : Work
  work = packet_work plan network packet

  abbrev owed : CircuitId → ℕ
  owed circuit = due plan calm service circuit origin network

  -- the work has the number of the frame
  abbrev ServesHere : ℕ → Type 0
  ServesHere n = ServesSite plan calm service target frame origin owed (absorb packet.to n packet.hops work base)

  -- ---- where it forwards, the frame is bridged

  abbrev port : Option ℕ
  port = position (is_wire_port packet.wire) (ports_of plan service packet.to)

  module _ (ended : is_terminal copy.row packet.to ≡ true) (takes : end_forwards plan (calm.edges packet.to.0) packet.wire ≡ true) where
    bridged : work ≡ forwarded plan taken_all (arrival.Wire packet.wire) service frame port (begin_at network packet.to)
    bridged = serve.bridged plan calm network trace service frame origin number packet checked steady settled sized ruled rule still copies found own framed ended takes

    ends : wire_ends_at service packet.to.0 copy.row ≡ true
    ends = serve.ends plan calm network trace service frame origin number packet checked steady settled sized ruled rule still copies found own framed ended

    -- the port that the bridge knows for the station leads to its site
    leads : (from q : ℕ) → port ≡ Some from → known_port (addresses_of (hearing service frame from (network.edges packet.to.0)) service) (destination frame) ≡ Some q
        → LeadsToSite plan calm service target packet.to q
    leads from q at known = arriving_leads plan calm network service site packet frame from q still points
        (bridged ∙ ap (λ (o : Option ℕ). forwarded plan taken_all (arrival.Wire packet.wire) service frame o (begin_at network packet.to)) at) known

    -- what a flood would serve
    abbrev flood : EdgeId → CircuitId → ℕ
    flood me circuit = cond (serves_here plan service (network.edges packet.to.0) circuit && true) 1 0 + wires_due plan calm service circuit me.0 (Some packet.wire.0)

    abbrev met_by : EdgeId → CircuitId → ℕ
    met_by me circuit = meets plan calm service circuit me
        (forwarded plan taken_all (arrival.Wire packet.wire) service frame (position (is_wire_port packet.wire) (ports_of plan service me)) (begin_at network packet.to)).effects

    served_at : ServesAsFlood target (flood (network.edges packet.to.0).me) (met_by (network.edges packet.to.0).me)
    served_at =
        let me : EdgeId = (network.edges packet.to.0).me in
        let back : packet.to ≡ me = sym placed in
        packet_serves plan (arrival.Wire packet.wire) calm (network.edges packet.to.0) service packet.wire copy.row target frame checked calmed copy.is
        (ap (λ (m : EdgeId). wire_ends_at service m.0 copy.row) placed ∙ ends)
        (subst (λ (m : EdgeId). IsStillEdge (calm.edges m.0) (network.edges packet.to.0)) back (still.edges packet.to.0)) (site_of plan calm service target on)
        (subst (λ (m : EdgeId). m.0 < length plan.edges) back
        (carried_within plan network trace packet checked
        (serve.rule_here plan calm network trace service frame origin number packet checked steady settled sized ruled rule still copies found own framed)))
        (subst (λ (m : EdgeId). has_port plan service m.0 ≡ true) back (port_at plan service packet.to.0 packet.wire.0 copy.row copy.is ends))
        (λ from q at known. subst (λ (m : EdgeId). LeadsToSite plan calm service target m q) back
        (leads from q (ap (λ (m : EdgeId). position (is_wire_port packet.wire) (ports_of plan service m)) back ∙ at) known))

    served : ServesAsFlood target (flood packet.to) (λ circuit. meets plan calm service circuit packet.to work.effects)
    served =
        subst (λ (w : Work). ServesAsFlood target (flood packet.to) (λ circuit. meets plan calm service circuit packet.to w.effects)) (sym bridged)
        (subst (λ (m : EdgeId). ServesAsFlood target (flood m) (met_by m)) placed served_at)

    -- which is what was due by the copy
    flood_due : (circuit : CircuitId) → is_site plan calm service circuit ≡ true → due plan calm service circuit origin base + flood packet.to circuit ≡ owed circuit
    flood_due circuit here =
        let at = site_of plan calm service circuit here in
        let law = arrival_law plan calm service circuit at.row packet.wire copy.row packet.to.0
        (start copy.row.path packet.from packet.to).0 checked calmed at.is at.of_service copy.is ends
        (serve.far plan calm network trace service frame origin number packet checked steady settled sized ruled rule still copies found own framed ended)
        (serve.live plan calm network trace service frame origin number packet checked steady settled sized ruled rule still copies found own framed ended takes) in
        let one : cond {A = ℕ} (serves_here plan service (network.edges packet.to.0) circuit && true) 1 0 ≡ cond (nat_eq at.row.edge.0 packet.to.0) 1 0 =
        ap (λ (b : Bool). cond {A = ℕ} (b && true) 1 0)
        (site_serves plan calm service circuit (network.edges packet.to.0) packet.to.0 at (ap (λ (m : EdgeId). m.0) placed) (still.edges packet.to.0)) ∙ alone (nat_eq at.row.edge.0 packet.to.0) in
        omega (
          arith,
          serve.gone plan calm network trace service frame origin number packet checked steady settled sized ruled rule still copies found own framed circuit,
          serve.awaits_here plan calm network trace service frame origin number packet checked steady settled sized ruled rule still copies found own framed ended circuit,
          law,
          one,
        )
      where
        alone : (b : Bool) → cond {A = ℕ} (b && true) 1 0 ≡ cond b 1 0
        alone true = refl
        alone false = refl

    abbrev given : CircuitId → ℕ
    given circuit = due plan calm service circuit origin base + meets plan calm service circuit packet.to work.effects

    absorbed : Serves plan calm service frame origin given (absorb packet.to origin packet.hops work base)
    absorbed =
        serves_absorb plan calm service frame origin given packet.to packet.hops work base
        (serve.rest plan calm network trace service frame origin number packet checked steady settled sized ruled rule still copies found own framed)
        (λ sent. serve.sends plan calm network trace service frame origin number packet checked steady settled sized ruled rule still copies found own framed ended takes sent
        (serve.flooding plan calm network trace service frame origin number packet checked steady settled sized ruled rule still copies found own framed ended takes))
        (λ circuit here. refl) (λ circuit other away. serve.nowhere_else plan calm network trace service frame origin number packet checked steady settled sized ruled rule still copies found own framed ended takes circuit other away (serve.flooding plan calm network trace service frame origin number packet checked steady settled sized ruled rule still copies found own framed ended takes))
        (λ other. left_within 12 origin packet.hops packet.to origin work.effects other
        (twelve_hops plan packet.wire copy.row packet.from packet.to packet.hops checked copy.is copy.joined
        (serve.come plan calm network trace service frame origin number packet checked steady settled sized ruled rule still copies found own framed ended takes)))

    taken : ServesHere origin
    taken = record {
      given = given;
      serves = absorbed;
      same = omega (arith, flood_due target on, served.same);
      most = λ circuit here. omega (arith, flood_due circuit here, served.most circuit);
    }

  -- what was due to the site by the copies before it arrived is served, or due by those after it
  pub arriving_serves_site : ServesSite plan calm service target frame origin owed (arriving plan packet network)
  arriving_serves_site = subst ServesHere (sym (eqb-true packet.origin origin own)) (elim (cases_Bool (is_terminal copy.row packet.to)) [
    | inl ended ↦ elim (cases_Bool (end_forwards plan (calm.edges packet.to.0) packet.wire)) [
      | inl takes ↦ taken ended takes
      | inr down ↦
          let dropped = copy_drops plan calm network trace service frame packet checked ruled still
          (serve.rule_here plan calm network trace service frame origin number packet checked steady settled sized ruled rule still copies found own framed) copy
          (serve.ended_rule plan calm network trace service frame origin number packet checked steady settled sized ruled rule still copies found own framed ended) down in
          serves_each plan calm service target frame origin owed (absorb packet.to origin packet.hops work base)
          (serve.dropping plan calm network trace service frame origin number packet checked steady settled sized ruled rule still copies found own framed ended dropped.why
          (ap (λ (w : Work). w.effects) dropped.is
          ∙ serve.drop_gives plan calm network trace service frame origin number packet checked steady settled sized ruled rule still copies found own framed dropped.why packet.to) down)
    ]
    | inr between ↦ serves_each plan calm service target frame origin owed (absorb packet.to origin packet.hops work base)
        (serve.switching_serves plan calm network trace service frame origin number packet checked steady settled sized ruled rule still copies found own framed between)
  ])
