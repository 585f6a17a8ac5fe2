-- A frame to a known station enters: its edge serves the station's site at once, or a copy is due to it; and to no other site more
-- than one copy is.
use Rattle.std.proofs.Common.{◌≡◌, ◌+◌, ◌&&◌, ◌∙◌, ℕ, Bool, true, false, List, [], Option, Some, None, Result, Ok, cond, nat_eq, not, refl, ap, sym, subst, arith}
use Rattle.std.proofs.lemmas.Bool.{eq-eqb, eqb-true}
use Rattle.std.specs.List.{AllByRecursion}
use Rattle.net_values.proofs.BoolLemmas.{first_holds}
use Rattle.net_base.specs.declared.plan.Plan.{Plan}
use Rattle.net_base.specs.declared.plan.circuit_plan.CircuitPlan.{CircuitPlan}
use Rattle.net_base.specs.declared.plan.places.CircuitId.{CircuitId}
use Rattle.net_base.specs.declared.plan.places.EdgeId.{EdgeId}
use Rattle.net_base.specs.declared.trace.arrival.Arrival.TheVariants as arrival
use Rattle.net_base.specs.declared.trace.drop_cause.DropCause.{DropCause}
use Rattle.net_base.specs.plan.Accepted.{IsChecked}
use Rattle.net_base.specs.plan.Places.{circuit_row, mtu_of}
use Rattle.net_base.specs.plan.Roles.{are_joined_by}
use Rattle.net_base.specs.trace.Isolated.{inner_at}
use Rattle.net_base.specs.trace.Frame.{destination_of}
use Rattle.vsi_bridge.specs.Targets.{known_port}
use Rattle.edge_model.specs.declared.effect.Effect.{Effect}
use Rattle.edge_model.specs.Frame.{destination, forwarded, hearing, is_own, port_at, received}
use Rattle.edge_model.specs.State.{addresses_of, is_on}
use Rattle.edge_model.specs.Work.{Work, idles}
use Rattle.edge_model.proofs.BridgeLemmas.{received_bridges}
use Rattle.network_model.specs.Absorb.{Stepped, absorb, all_entries_of, begin_at, idle, taken_all}
use Rattle.network_model.specs.Calm.{has_live_spokes, is_calm, is_full, is_quiet}
use Rattle.network_model.specs.Frame.{entering, frame_event, frame_work, next_origin}
use Rattle.network_model.specs.OnceEach.{times_left}
use Rattle.network_model.specs.Reach.{is_site}
use Rattle.network_model.specs.State.{NetworkState, edge_at, with_frame}
use Rattle.network_model.proofs.AbsorbLemmas.{of_origin}
use Rattle.network_model.proofs.PacketListLemmas.{both_hold, packets_of}
use Rattle.flight_laws.specs.Laws.{AreSettled}
use Rattle.flight_laws.proofs.RuledNetworkLemmas.{IsRuledNetwork}
use Rattle.packet_laws.proofs.ArriveLemmas.{IsSized}
use Rattle.flood_laws.specs.Copy.{CarriesCopy, IsStill}
use Rattle.flood_laws.specs.Due.{serves_here, wires_due}
use Rattle.flood_laws.proofs.CopyLemmas.{copies_carry}
use Rattle.flood_laws.proofs.CountLemmas.{awaited, due, meets}
use Rattle.flood_laws.proofs.HopLemmas.{first_hop}
use Rattle.flood_laws.proofs.LawLemmas.{circuit_port, circuit_within, entry_law}
use Rattle.flood_laws.proofs.ServeLemmas.{Floods, FloodsBy, FloodsNot, IsNearCopy, Serves, copies_near, floods, serves_absorb, serves_in}
use Rattle.flood_laws.specs.Hops.{HasPassed}
use Rattle.flood_laws.proofs.SiteLemmas.{left_within, none_elsewhere, site_of, site_serves}
use Rattle.flood_laws.proofs.StartLemmas.{owed_by, owed_to}
use Rattle.flood_laws.proofs.StillLemmas.{frame_still}
use Rattle.address_laws.specs.Points.{Points}
use Rattle.address_laws.specs.Sites.{Sites}
use Rattle.address_laws.proofs.KnownBridgeLemmas.{ServesAsFlood, frame_serves}
use Rattle.address_laws.proofs.KnownLeadLemmas.{LeadsToSite}
use Rattle.address_laws.proofs.KnownPointLemmas.{entering_leads}
use Rattle.address_laws.proofs.KnownServeLemmas.{ServesSite}

module _ (plan : Plan) (calm network : NetworkState) (site : Sites) (at : CircuitId) (octets frame : List ℕ) (row : CircuitPlan)
    (checked : IsChecked plan) (calmed : is_calm plan calm row.service ≡ true)
    (settled : (a b : ℕ) → are_joined_by plan row.service a b ≡ true → AreSettled plan calm a b) (sized : IsSized (mtu_of plan row.service) frame)
    (ruled : IsRuledNetwork plan network) (still : IsStill calm network)
    (is : circuit_row plan at ≡ Some row) (on : is_on (edge_at network row.edge) at ≡ true) (formed : inner_at plan at octets ≡ Ok frame)
    (receives : is_site plan calm row.service (site (destination_of frame)) ≡ true)
    (points : Points plan (frame_event plan at octets (Some row) network).state row.service site)
    (none_before : of_origin (next_origin network) network.under_way ≡ []) where
  abbrev target : CircuitId
  target = site (destination_of frame)

  abbrev origin : ℕ
  origin = next_origin network

  abbrev work : Work
  work = frame_work plan network at octets row

  abbrev port : Option ℕ
  port = port_at plan (edge_at network row.edge) at row

  quiet : is_quiet plan calm row.service ≡ true
  quiet = first_holds (is_quiet plan calm row.service) (is_full plan calm row.service)
      (first_holds (is_quiet plan calm row.service && is_full plan calm row.service) (has_live_spokes plan calm row.service) calmed)

  placed : (edge_at network row.edge).me ≡ row.edge
  placed = (ruled.edges row.edge.0).place

  own_service : nat_eq row.service.0 row.service.0 ≡ true
  own_service = eq-eqb row.service.0 row.service.0 refl

  -- its edge takes the frame
  taken : work ≡ received plan taken_all (arrival.Circuit at) row.service port (inner_at plan at octets) (begin_at network row.edge)
  taken =
      let own : is_own (edge_at network row.edge) row ≡ true = eq-eqb row.edge.0 (edge_at network row.edge).me.0 (ap (λ (e : EdgeId). e.0) (sym placed)) in
      let both : is_own (edge_at network row.edge) row && is_on (edge_at network row.edge) at ≡ true = rw (own, on) refl in
      ap (λ (b : Bool). cond b (received plan taken_all (arrival.Circuit at) row.service port (inner_at plan at octets) (begin_at network row.edge)) (idles (begin_at network row.edge))) both

  bridged : work ≡ forwarded plan taken_all (arrival.Circuit at) row.service frame port (begin_at network row.edge)
  bridged = taken ∙ ap (λ (r : Result (List ℕ) DropCause). received plan taken_all (arrival.Circuit at) row.service port r (begin_at network row.edge)) formed

  applies : work.idle ≡ false
  applies = ap (λ (w : Work). w.idle) taken ∙ (received_bridges plan taken_all (arrival.Circuit at) row.service port (inner_at plan at octets) (begin_at network row.edge)).idle

  -- the frame enters
  pub enters_with : frame_event plan at octets (Some row) network ≡ entering network at octets row (frame_work plan network at octets row)
  enters_with = ap (λ (b : Bool). cond b (idle network) (entering network at octets row work)) applies

  -- ---- what its copies serve

  -- the port that the bridge knows for the station leads to its site
  leads : (from q : ℕ) → port ≡ Some from → known_port (addresses_of (hearing row.service frame from (edge_at network row.edge)) row.service) (destination frame) ≡ Some q
      → LeadsToSite plan calm row.service target row.edge q
  leads from q there known =
      entering_leads plan calm network row.service site at octets row frame from q
      (subst (λ (s : Stepped). IsStill calm s.state) enters_with (frame_still plan calm network at octets (Some row) still))
      (subst (λ (s : Stepped). Points plan s.state row.service site) enters_with points)
      (bridged ∙ ap (λ (o : Option ℕ). forwarded plan taken_all (arrival.Circuit at) row.service frame o (begin_at network row.edge)) there) known

  abbrev base : NetworkState
  base = with_frame network

  none_there : of_origin origin base.under_way ≡ []
  unfolding with_frame
  none_there = none_before

  rest : AllByRecursion (IsNearCopy plan calm row.service frame) (of_origin origin base.under_way)
  rest = subst (AllByRecursion (IsNearCopy plan calm row.service frame)) (sym none_there) tt

  -- what a flood would serve
  abbrev flood : CircuitId → ℕ
  flood circuit = cond (serves_here plan row.service (edge_at network row.edge) circuit && not (nat_eq circuit.0 at.0)) 1 0 + wires_due plan calm row.service circuit row.edge.0 None

  served : ServesAsFlood target flood (λ circuit. meets plan calm row.service circuit row.edge work.effects)
  served =
      subst (λ (w : Work). ServesAsFlood target flood (λ circuit. meets plan calm row.service circuit row.edge w.effects)) (sym bridged)
      (subst (λ (m : EdgeId). ServesAsFlood target flood
      (λ circuit. meets plan calm row.service circuit m (forwarded plan taken_all (arrival.Circuit at) row.service frame port (begin_at network row.edge)).effects)) placed
      (frame_serves plan (arrival.Circuit at) calm (edge_at network row.edge) at target frame row checked calmed is placed (still.edges row.edge.0) (site_of plan calm row.service target receives)
      (circuit_within plan at row checked is) (circuit_port plan row.service at row is own_service) leads))

  -- which is what is owed
  flood_due : (circuit : CircuitId) → is_site plan calm row.service circuit ≡ true → due plan calm row.service circuit origin base + flood circuit ≡ owed_to at circuit
  flood_due circuit here =
      let there = site_of plan calm row.service circuit here in
      let none : due plan calm row.service circuit origin base ≡ 0 = ap (awaited plan calm row.service circuit) none_there in
      let law = entry_law plan calm row.service circuit at there.row row checked calmed there.is there.of_service is own_service in
      let one : cond {A = ℕ} (serves_here plan row.service (edge_at network row.edge) circuit && not (nat_eq circuit.0 at.0)) 1 0
      ≡ cond (nat_eq there.row.edge.0 row.edge.0 && not (nat_eq circuit.0 at.0)) 1 0 =
      ap (λ (b : Bool). cond {A = ℕ} (b && not (nat_eq circuit.0 at.0)) 1 0)
      (site_serves plan calm row.service circuit (edge_at network row.edge) row.edge.0 there (ap (λ (m : EdgeId). m.0) placed) (still.edges row.edge.0)) in
      omega (arith, none, one, law, owed_by (nat_eq there.row.edge.0 row.edge.0) (nat_eq circuit.0 at.0) (beside there.row there.is))
    where
      beside : (other : CircuitPlan) → circuit_row plan circuit ≡ Some other → nat_eq circuit.0 at.0 ≡ true → nat_eq other.edge.0 row.edge.0 ≡ true
      beside other other_is same =
          let place : circuit_row plan circuit ≡ circuit_row plan at = ap (λ (n : ℕ). circuit_row plan (record { 0 = n })) (eqb-true circuit.0 at.0 same) in
          let rows : Some other ≡ Some row = sym other_is ∙ (place ∙ is) in
          let equal : other ≡ row = cc (rows) in
          eq-eqb other.edge.0 row.edge.0 (ap (λ (r : CircuitPlan). r.edge.0) equal)

  gives_copies : Floods plan (edge_at network row.edge) (arrival.Circuit at) row.service frame port work.effects
  gives_copies = subst (λ (w : Work). Floods plan (edge_at network row.edge) (arrival.Circuit at) row.service frame port w.effects) (sym bridged)
      (floods plan (arrival.Circuit at) row.service frame port (edge_at network row.edge))

  sends : (sent : ℕ) → Floods plan (edge_at network row.edge) (arrival.Circuit at) row.service frame port work.effects
      → AllByRecursion (IsNearCopy plan calm row.service frame) (packets_of row.edge origin 0 sent work.effects)
  sends sent (FloodsNot none) = subst (λ (es : List Effect). AllByRecursion (IsNearCopy plan calm row.service frame) (packets_of row.edge origin 0 sent es)) (sym none) tt
  sends sent (FloodsBy from found all) =
      both_hold (CarriesCopy plan calm row.service frame) (HasPassed plan) (packets_of row.edge origin 0 sent work.effects)
      (copies_carry plan calm network row.edge origin 0 sent (arrival.Circuit at) row.service frame from work.effects checked ruled still quiet settled sized all)
      (copies_near plan (edge_at network row.edge) row.edge origin 0 sent (arrival.Circuit at) row.service frame from work.effects
      (λ peer wire of_arrival bytes copy r r_is. first_hop plan row.edge peer r) all)

  nowhere_else : (circuit : CircuitId) (other : NetworkState) → is_site plan calm row.service circuit ≡ false
      → Floods plan (edge_at network row.edge) (arrival.Circuit at) row.service frame port work.effects
      → times_left origin circuit (all_entries_of row.edge origin 0 work.effects other) ≡ 0
  nowhere_else circuit other away (FloodsNot none) = ap (λ (es : List Effect). times_left origin circuit (all_entries_of row.edge origin 0 es other)) none
  nowhere_else circuit other away (FloodsBy from found all) =
      none_elsewhere plan calm network row.edge origin 0 (arrival.Circuit at) row.service frame from circuit work.effects other placed (still.edges row.edge.0) away all

  abbrev given : CircuitId → ℕ
  given circuit = due plan calm row.service circuit origin base + meets plan calm row.service circuit row.edge work.effects

  absorbed : Serves plan calm row.service frame origin given (absorb row.edge origin 0 work base)
  absorbed =
      serves_absorb plan calm row.service frame origin given row.edge 0 work base rest
      (λ sent. sends sent gives_copies) (λ circuit here. refl) (λ circuit other away. nowhere_else circuit other away gives_copies)
      (λ other. left_within 12 origin 0 row.edge origin work.effects other (omega arith))

  entered : ServesSite plan calm row.service target frame origin (owed_to at) (entering network at octets row work)
  entered = record {
    given = given;
    serves = serves_in plan calm row.service frame origin given at origin octets (absorb row.edge origin 0 work base) absorbed;
    same = omega (arith, flood_due target receives, served.same);
    most = λ circuit here. omega (arith, flood_due circuit here, served.most circuit);
  }

  -- what it serves as it enters
  pub entering_serves_site : ServesSite plan calm row.service target frame origin (owed_to at) (frame_event plan at octets (Some row) network)
  entering_serves_site = subst (ServesSite plan calm row.service target frame origin (owed_to at)) (sym enters_with) entered
