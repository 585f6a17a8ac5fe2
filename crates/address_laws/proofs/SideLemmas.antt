-- In a stretch each packet on a wire of the service comes from where its frame entered; and so do the copies that a bridge sends of
-- a frame that came by a port behind which it entered.
use Rattle.std.proofs.Common.{◌||◌, ◌≡◌, ◌&&◌, ◌+◌, ◌∙◌, ℕ, true, false, List, [], ◌∷◌, Some, Ok, nat_eq, slice_get, sym, subst, ap, ◌==◌}
use Rattle.std.specs.List.{AllByRecursion}
use Rattle.std.proofs.lemmas.Bool.{and_from}
use Rattle.net_values.proofs.BoolLemmas.{clash_at}
use Rattle.net_base.specs.declared.plan.Plan.{Plan}
use Rattle.net_base.specs.declared.plan.wire_plan.WirePlan.{WirePlan}
use Rattle.net_base.specs.declared.plan.places.EdgeId.{EdgeId}
use Rattle.net_base.specs.declared.plan.places.ServiceId.{ServiceId}
use Rattle.net_base.specs.declared.plan.places.WireId.{WireId}
use Rattle.net_base.specs.declared.trace.arrival.Arrival.{Arrival}
use Rattle.net_base.specs.declared.trace.entry.Entry.{Entry}
use Rattle.net_base.specs.plan.Accepted.{IsChecked}
use Rattle.net_base.specs.plan.Paths.{is_first, is_last, joins}
use Rattle.edge_model.specs.State.{EdgeState, with_learned}
use Rattle.net_base.specs.plan.Places.{mtu_of, wire_row}
use Rattle.net_base.specs.plan.Roles.{is_wire_of}
use Rattle.hvpls_spokes.specs.declared.port.Port.{Port}
use Rattle.hvpls_spokes.specs.Port.{is_mesh_port, ports_of, wire_port}
use Rattle.edge_model.specs.Copies.{AllAreCopies, SentCopy}
use Rattle.edge_model.specs.declared.effect.Effect.{Effect}
use Rattle.edge_model.specs.declared.effect.Effect.TheVariants as effect
use Rattle.edge_model.specs.Ends.{end_forwards, forwards_at, is_up}
use Rattle.network_model.specs.declared.packet.Packet.{Packet}
use Rattle.network_model.specs.Calm.{is_calm}
use Rattle.network_model.specs.Reach.{reach}
use Rattle.network_model.specs.State.{NetworkState}
use Rattle.network_model.specs.Window.{carried}
use Rattle.network_model.proofs.PacketListLemmas.{holds_by, packet_from, packets_of}
use Rattle.flight_laws.proofs.RuledNetworkLemmas.{IsRuledNetwork}
use Rattle.flight_laws.proofs.PlaceLemmas.{same_row}
use Rattle.flight_laws.proofs.RuledMendLemmas.{wire_fits}
use Rattle.packet_laws.proofs.ArriveLemmas.{IsSized}
use Rattle.packet_laws.proofs.SendLemmas.{HasCome}
use Rattle.flood_laws.specs.Copy.{IsStill}
use Rattle.flood_laws.proofs.CarryLemmas.{copy_carried, copy_joined}
use Rattle.flood_laws.proofs.CopyLemmas.{CarriesIn, sent_carry, sent_ended, still_forwards}
use Rattle.address_laws.proofs.PassLemmas.{passes_on}
use Rattle.address_laws.proofs.SpokeHomeLemmas.{of_service}
use Rattle.flood_laws.proofs.WireEdgeLemmas.{AreSides, IsFar, IsNear, sides_far}
use Rattle.flood_laws.proofs.LinkLemmas.{IsLink, link_at}
use Rattle.flood_laws.proofs.WholeLemmas.{wire_whole}
use Rattle.flood_laws.proofs.HopLemmas.{sent_far}
use Rattle.network_model.specs.Goal.{goal}
use Rattle.net_base.specs.plan.Roles.{wire_ends_at}
use Rattle.network_model.specs.Reach.{far_of}
use Rattle.network_model.specs.Calm.{carries}

-- ---- where frames come from

-- a packet on a wire with this row: the circuit of the service at which its frame entered is behind the port by which it will
-- arrive, where that port forwards in the calm state
pub record HasSide (plan : Plan) (calm : NetworkState) (service : ServiceId) (told : List Entry) (packet : Packet) (row : WirePlan) : Type 0 where
  pub frame : List ℕ
  pub come : HasCome plan told service packet.origin frame
  pub carries : carried plan packet ≡ Ok frame
  pub behind : end_forwards plan (calm.edges (goal row.path packet.from packet.to).0) packet.wire ≡ true
      → reach plan calm service (goal row.path packet.from packet.to).0 (wire_port packet.wire.0 row) come.sender ≡ true

-- so it is with one that carries a frame, where the wire is one of the service
abbrev pub KnowsSide : Plan → NetworkState → ServiceId → List Entry → Packet → Type 0
KnowsSide plan calm service told packet = (packet.origin == 0) ≡ false → (row : WirePlan) → wire_row plan packet.wire ≡ Some row → is_wire_of service row ≡ true
    → HasSide plan calm service told packet row

-- a frame came to the bridge of the service by a port behind which it entered
pub record ComesBehind (plan : Plan) (calm : NetworkState) (service : ServiceId) (told : List Entry) (me : EdgeId) (origin : ℕ) (frame : List ℕ) (arrival : ℕ) : Type 0 where
  pub come : HasCome plan told service origin frame
  pub port : Port
  pub at : slice_get (ports_of plan service me) arrival ≡ Some port
  pub behind : reach plan calm service me.0 port come.sender ≡ true

-- ---- the copies of such a frame

module _ (plan : Plan) (calm network : NetworkState) (service : ServiceId) (told : List Entry) (me : EdgeId) (origin : ℕ) (came : Arrival) (frame : List ℕ)
    (arrival : ℕ)
    (checked : IsChecked plan) (calmed : is_calm plan calm service ≡ true) (ruled : IsRuledNetwork plan network)
    (still : IsStill calm network)
    (sized : IsSized (mtu_of plan service) frame) (behind : ComesBehind plan calm service told me origin frame arrival) where
  at : (network.edges me.0).me ≡ me
  at = (ruled.edges me.0).place

  calm_placed : (k : ℕ) → (calm.edges k).me ≡ record { 0 = k }
  unfolding with_learned
  calm_placed k = sym (ap (λ (e : EdgeState). e.me) (still.edges k).is) ∙ (ruled.edges k).place

  -- a copy that is sent
  copy_side : (hops sent : ℕ) (peer : EdgeId) (wire : WireId) (of_arrival : Arrival) (bytes : List ℕ)
      → SentCopy plan (network.edges me.0) came service frame arrival peer wire of_arrival bytes
      → KnowsSide plan calm service told (packet_from me origin hops sent peer wire bytes)
  copy_side hops sent peer wire of_arrival bytes copy numbered row is ours = record {
    frame = frame;
    come = behind.come;
    carries = copy_carried plan network me origin hops sent came service frame arrival peer wire of_arrival bytes checked ruled copy sized;
    behind = λ there. passes_on plan calm service behind.come.sender (of_service plan service behind.come.sender behind.come.of_service) checked calmed
        me (goal row.path me peer) wire row is ours ends leads (live there) arrival copy.p to copy.by.other apart behind.port behind.at behind.behind;
  }
    where
      same : copy.row ≡ row
      same = same_row copy.row row (sym copy.is ∙ is)

      joined : joins me.0 peer.0 row.path ≡ true
      joined = subst (λ (r : WirePlan). joins me.0 peer.0 r.path ≡ true) same
          (copy_joined plan network me origin hops sent came service frame arrival peer wire of_arrival bytes checked ruled copy)

      here : end_forwards plan (calm.edges me.0) wire ≡ true
      here =
          sym (still_forwards plan (calm.edges me.0) (network.edges me.0) wire (still.edges me.0))
          ∙ (ap (forwards_at plan (network.edges me.0)) copy.here ∙ ap is_up copy.forwards)

      ended : is_first me.0 row.path || is_last me.0 row.path ≡ true
      ended = ap (λ (r : WirePlan). is_first me.0 r.path || is_last me.0 r.path) (sym same) ∙ sent_ended plan network me came service frame arrival peer wire of_arrival bytes checked ruled copy

      ends : wire_ends_at service me.0 row ≡ true
      ends = and_from (is_wire_of service row) (is_first me.0 row.path || is_last me.0 row.path) ours ended

      leads : far_of me.0 row.path ≡ Some (goal row.path me peer).0
      leads = sent_far row.path me peer (wire_fits plan wire row checked is).once joined ended

      -- where the far terminal edge forwards too, the wire carries frames
      live : end_forwards plan (calm.edges (goal row.path me peer).0) wire ≡ true → carries plan calm wire.0 row ≡ true
      live there = by (link_at plan wire.0 row checked is) where
        by : IsLink plan row → carries plan calm wire.0 row ≡ true
        by link = side (sides_far plan service row link me.0 (goal row.path me peer).0 ends leads) where
          from_near : end_forwards plan (calm.edges link.near.0) wire ≡ true → carries plan calm wire.0 row ≡ true
          from_near up = wire_whole plan calm service wire row link checked calmed calm_placed is ours up

          side : AreSides link.near.0 link.far.0 me.0 (goal row.path me peer).0 → carries plan calm wire.0 row ≡ true
          side (IsNear near far) = from_near (ap (λ (n : ℕ). end_forwards plan (calm.edges n) wire) (sym near) ∙ here)
          side (IsFar far near) = from_near (ap (λ (n : ℕ). end_forwards plan (calm.edges n) wire) (sym near) ∙ there)

      to : slice_get (ports_of plan service me) copy.p ≡ Some (wire_port wire.0 row)
      to = subst (λ (r : WirePlan). slice_get (ports_of plan service me) copy.p ≡ Some (wire_port wire.0 r)) same
          (ap (λ (k : EdgeId). slice_get (ports_of plan service k) copy.p) (sym at) ∙ copy.by.at)

      apart : is_mesh_port (ports_of plan service me) arrival && is_mesh_port (ports_of plan service me) copy.p ≡ false
      apart = ap (λ (k : EdgeId). is_mesh_port (ports_of plan service k) arrival && is_mesh_port (ports_of plan service k) copy.p) (sym at) ∙ copy.by.apart

  -- all of them
  pub copies_side : (hops sent : ℕ) (es : List Effect) → AllAreCopies plan (network.edges me.0) came service frame arrival es
      → AllByRecursion (KnowsSide plan calm service told) (packets_of me origin hops sent es)
  copies_side hops sent [] all = tt
  copies_side hops sent (effect.Sent peer wire of_arrival bytes ∷ es) all = (copy_side hops sent peer wire of_arrival bytes all.0, copies_side hops (sent + 1) es all.1)
  copies_side hops sent (e ∷ es) all = copies_side hops sent es all.1

-- copies of a frame of another service are on wires of that one
away_side : (plan : Plan) (calm : NetworkState) (service of : ServiceId) (told : List Entry) (frame : List ℕ) (packet : Packet) → nat_eq of.0 service.0 ≡ false
    → CarriesIn plan of frame packet → KnowsSide plan calm service told packet
away_side plan calm service of told frame packet other carries numbered row is ours =
    let same : carries.row ≡ row = same_row carries.row row (sym carries.is ∙ is) in
    let service_is : row.service ≡ of = ap (λ (r : WirePlan). r.service) (sym same) ∙ carries.same in
    clash_at (nat_eq row.service.0 service.0) ours (ap (λ (s : ServiceId). nat_eq s.0 service.0) service_is ∙ other)

pub copies_away : (plan : Plan) (calm network : NetworkState) (service of : ServiceId) (told : List Entry) (me : EdgeId) (origin hops sent : ℕ) (came : Arrival)
    (frame : List ℕ) (arrival : ℕ) (es : List Effect)
    → IsChecked plan → IsRuledNetwork plan network → IsSized (mtu_of plan of) frame → nat_eq of.0 service.0 ≡ false
    → AllAreCopies plan (network.edges me.0) came of frame arrival es
    → AllByRecursion (KnowsSide plan calm service told) (packets_of me origin hops sent es)
copies_away plan calm network service of told me origin hops sent came frame arrival es checked ruled sized other all =
    holds_by (CarriesIn plan of frame) (KnowsSide plan calm service told) (packets_of me origin hops sent es)
    (λ packet carries. away_side plan calm service of told frame packet other carries)
    (sent_carry plan network me origin hops sent came of frame arrival es checked ruled sized all)
