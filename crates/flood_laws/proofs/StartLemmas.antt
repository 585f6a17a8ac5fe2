-- A flooded frame enters a quiet service: each site that it reaches is served at once, or a copy is due to it.
use Rattle.std.proofs.Common.{◌≡◌, ◌+◌, ◌&&◌, ◌∙◌, ℕ, Bool, true, false, List, [], Option, Some, None, Result, Ok, cond, nat_eq, not, refl, ap, sym, subst, arith, inl, inr}
use Rattle.std.proofs.lemmas.Bool.{cases_Bool, eq-eqb, eqb-true, or_left}
use Rattle.std.specs.List.{AllByRecursion}
use Rattle.net_values.proofs.NumberLemmas.{equal_turned}
use Rattle.net_base.specs.declared.plan.Plan.{Plan}
use Rattle.net_base.specs.declared.plan.circuit_plan.CircuitPlan.{CircuitPlan}
use Rattle.net_base.specs.declared.plan.places.CircuitId.{CircuitId}
use Rattle.net_base.specs.declared.plan.places.EdgeId.{EdgeId}
use Rattle.net_base.specs.declared.plan.places.ServiceId.{ServiceId}
use Rattle.net_base.specs.declared.trace.arrival.Arrival.TheVariants as arrival
use Rattle.net_base.specs.declared.trace.drop_cause.DropCause.{DropCause}
use Rattle.net_base.specs.plan.Accepted.{IsChecked}
use Rattle.net_base.specs.plan.Places.{circuit_row, mtu_of}
use Rattle.net_base.specs.plan.Roles.{are_joined_by}
use Rattle.net_base.specs.trace.Isolated.{inner_at}
use Rattle.vsi_bridge.specs.Targets.{known_port}
use Rattle.edge_model.specs.declared.effect.Effect.{Effect}
use Rattle.edge_model.specs.Frame.{destination, forwarded, hearing, is_own, port_at, received}
use Rattle.edge_model.specs.State.{addresses_of, is_on, with_learned}
use Rattle.edge_model.specs.Work.{Work, idles}
use Rattle.edge_model.proofs.BridgeLemmas.{received_bridges}
use Rattle.network_model.specs.Absorb.{absorb, all_entries_of, begin_at, idle, taken_all}
use Rattle.network_model.specs.Calm.{is_quiet}
use Rattle.network_model.specs.Frame.{entering, frame_event, frame_work, next_origin}
use Rattle.network_model.specs.OnceEach.{times_left}
use Rattle.network_model.specs.Reach.{is_site}
use Rattle.network_model.specs.State.{NetworkState, edge_at, with_frame}
use Rattle.network_model.proofs.AbsorbLemmas.{of_origin}
use Rattle.network_model.proofs.PacketListLemmas.{both_hold, packets_of}
use Rattle.flight_laws.specs.Laws.{AreSettled}
use Rattle.flight_laws.proofs.RuledNetworkLemmas.{IsRuledNetwork}
use Rattle.packet_laws.proofs.ArriveLemmas.{IsSized}
use Rattle.flood_laws.specs.Copy.{CarriesCopy, IsStill}
use Rattle.flood_laws.specs.Hops.{HasPassed}
use Rattle.flood_laws.specs.Due.{serves_here, wires_due}
use Rattle.flood_laws.specs.Reached.{core_of, have_mesh, is_reached, reaches}
use Rattle.flood_laws.proofs.BridgeLemmas.{frame_meets}
use Rattle.flood_laws.proofs.CopyLemmas.{copies_carry}
use Rattle.flood_laws.proofs.CountLemmas.{awaited, due, meets}
use Rattle.flood_laws.proofs.HomeLemmas.{HasLoneSpokes, lone_placed}
use Rattle.flood_laws.proofs.HopLemmas.{first_hop}
use Rattle.flood_laws.proofs.JoinedLemmas.{IsSteady}
use Rattle.flood_laws.proofs.LawLemmas.{entry_reaches}
use Rattle.flood_laws.proofs.ServeLemmas.{Floods, FloodsBy, FloodsNot, IsNearCopy, Serves, copies_near, floods, serves_absorb, serves_in}
use Rattle.flood_laws.proofs.SiteLemmas.{left_within, none_elsewhere, site_of, site_serves}

-- nothing has changed of a network itself
pub still_self : (calm : NetworkState) → IsStill calm calm
unfolding with_learned
still_self calm = record { edges = λ k. record { learned = (calm.edges k).learned; is = refl } }

-- one copy is owed to each site but the sender
abbrev pub owed_to : CircuitId → CircuitId → ℕ
owed_to at circuit = cond {A = ℕ} (not (nat_eq circuit.0 at.0)) 1 0

-- of a site and the sender: the site is served at the sender's edge, or a copy is due to it
pub owed_by : (same_edge sender : Bool) → (sender ≡ true → same_edge ≡ true) → cond {A = ℕ} (same_edge && not sender) 1 0 + cond {A = ℕ} same_edge 0 1 ≡ cond {A = ℕ} (not sender) 1 0
owed_by true true both = refl
owed_by true false both = refl
owed_by false true both = absurd (cc (both refl))
owed_by false false both = refl

-- one copy is owed to each circuit that is reached
abbrev pub owed_reached : Plan → NetworkState → ServiceId → CircuitId → CircuitId → ℕ
owed_reached plan calm service at circuit = cond {A = ℕ} (is_reached plan calm service at circuit) 1 0

-- of a site and the sender: the site is served at the sender's edge, or a copy is due to it, where that edge reaches it
owed_at : (same_edge sender reached : Bool) → (sender ≡ true → same_edge ≡ true) → (same_edge ≡ true → reached ≡ true)
    → cond {A = ℕ} (same_edge && not sender) 1 0 + cond {A = ℕ} (not same_edge && reached) 1 0 ≡ cond {A = ℕ} (reached && not sender) 1 0
owed_at true sender true both here = elim (cases_Bool sender) [
  | inl is ↦ rw is refl
  | inr is ↦ rw is refl
]
owed_at true sender false both here = absurd (cc (here refl))
owed_at false true reached both here = absurd (cc (both refl))
owed_at false false true both here = refl
owed_at false false false both here = refl

module _ (plan : Plan) (calm : NetworkState) (at : CircuitId) (octets frame : List ℕ) (row : CircuitPlan)
    (checked : IsChecked plan) (steady : IsSteady plan calm row.service)
    (settled : (a b : ℕ) → are_joined_by plan row.service a b ≡ true → AreSettled plan calm a b) (sized : IsSized (mtu_of plan row.service) frame)
    (ruled : IsRuledNetwork plan calm) (is : circuit_row plan at ≡ Some row) (on : is_on (edge_at calm row.edge) at ≡ true) (formed : inner_at plan at octets ≡ Ok frame)
    (unknown : (arrival : ℕ) → known_port (addresses_of (hearing row.service frame arrival (edge_at calm row.edge)) row.service) (destination frame) ≡ None)
    (none_before : of_origin (next_origin calm) calm.under_way ≡ []) where
  abbrev origin : ℕ
  origin = next_origin calm

  abbrev work : Work
  work = frame_work plan calm at octets row

  abbrev port : Option ℕ
  port = port_at plan (edge_at calm row.edge) at row

  quiet : is_quiet plan calm row.service ≡ true
  quiet = steady.quiet

  placed : (edge_at calm row.edge).me ≡ row.edge
  placed = (ruled.edges row.edge.0).place

  lone : HasLoneSpokes plan calm row.service
  lone = lone_placed plan calm row.service checked (λ k. (ruled.edges k).place)

  -- its edge takes the frame
  taken : work ≡ received plan taken_all (arrival.Circuit at) row.service port (inner_at plan at octets) (begin_at calm row.edge)
  taken =
      let own : is_own (edge_at calm row.edge) row ≡ true = eq-eqb row.edge.0 (edge_at calm row.edge).me.0 (ap (λ (e : EdgeId). e.0) (sym placed)) in
      let both : is_own (edge_at calm row.edge) row && is_on (edge_at calm row.edge) at ≡ true = rw (own, on) refl in
      ap (λ (b : Bool). cond b (received plan taken_all (arrival.Circuit at) row.service port (inner_at plan at octets) (begin_at calm row.edge)) (idles (begin_at calm row.edge))) both

  bridged : work ≡ forwarded plan taken_all (arrival.Circuit at) row.service frame port (begin_at calm row.edge)
  bridged = taken ∙ ap (λ (r : Result (List ℕ) DropCause). received plan taken_all (arrival.Circuit at) row.service port r (begin_at calm row.edge)) formed

  applies : work.idle ≡ false
  applies = ap (λ (w : Work). w.idle) taken ∙ (received_bridges plan taken_all (arrival.Circuit at) row.service port (inner_at plan at octets) (begin_at calm row.edge)).idle

  -- ---- what its copies serve

  abbrev base : NetworkState
  base = with_frame calm

  none_there : of_origin origin base.under_way ≡ []
  unfolding with_frame
  none_there = none_before

  rest : AllByRecursion (IsNearCopy plan calm row.service frame) (of_origin origin base.under_way)
  rest = subst (AllByRecursion (IsNearCopy plan calm row.service frame)) (sym none_there) tt

  met : (circuit : CircuitId) → meets plan calm row.service circuit row.edge work.effects
      ≡ cond (serves_here plan row.service (edge_at calm row.edge) circuit && not (nat_eq circuit.0 at.0)) 1 0 + wires_due plan calm row.service circuit row.edge.0 None
  met circuit =
      ap (λ (w : Work). meets plan calm row.service circuit row.edge w.effects) bridged
      ∙ (ap (λ (m : EdgeId). meets plan calm row.service circuit m (forwarded plan taken_all (arrival.Circuit at) row.service frame port (begin_at calm row.edge)).effects) (sym placed)
      ∙ frame_meets plan (arrival.Circuit at) calm (edge_at calm row.edge) at circuit frame row checked is placed ((still_self calm).edges row.edge.0) unknown)

  balanced : (circuit : CircuitId) → is_site plan calm row.service circuit ≡ true
      → due plan calm row.service circuit origin base + meets plan calm row.service circuit row.edge work.effects ≡ owed_reached plan calm row.service at circuit
  balanced circuit site =
      let there = site_of plan calm row.service circuit site in
      let none : due plan calm row.service circuit origin base ≡ 0 = ap (awaited plan calm row.service circuit) none_there in
      let law = entry_reaches plan calm row.service circuit there.row checked lone there.is there.of_service row.edge.0 in
      let served : cond {A = ℕ} (serves_here plan row.service (edge_at calm row.edge) circuit && not (nat_eq circuit.0 at.0)) 1 0
      ≡ cond (nat_eq there.row.edge.0 row.edge.0 && not (nat_eq circuit.0 at.0)) 1 0 =
      ap (λ (b : Bool). cond {A = ℕ} (b && not (nat_eq circuit.0 at.0)) 1 0)
      (site_serves plan calm row.service circuit (edge_at calm row.edge) row.edge.0 there (ap (λ (m : EdgeId). m.0) placed) ((still_self calm).edges row.edge.0)) in
      let owed : cond {A = ℕ} (reaches plan calm row.service row.edge.0 there.row.edge.0 && not (nat_eq circuit.0 at.0)) 1 0 ≡ owed_reached plan calm row.service at circuit =
      sym (rw (site, is, there.is) refl) in
      omega (
        arith,
        none,
        met circuit,
        served,
        law,
        owed,
        owed_at (nat_eq there.row.edge.0 row.edge.0) (nat_eq circuit.0 at.0) (reaches plan calm row.service row.edge.0 there.row.edge.0)
            (beside there.row there.is) (itself there.row.edge.0),
      )
    where
      itself : (e : ℕ) → nat_eq e row.edge.0 ≡ true → reaches plan calm row.service row.edge.0 e ≡ true
      itself e same = or_left (nat_eq row.edge.0 e) (have_mesh plan calm row.service (core_of plan calm row.service row.edge.0) (core_of plan calm row.service e)) (equal_turned row.edge.0 e ∙ same)

      beside : (other : CircuitPlan) → circuit_row plan circuit ≡ Some other → nat_eq circuit.0 at.0 ≡ true → nat_eq other.edge.0 row.edge.0 ≡ true
      beside other other_is same =
          let place : circuit_row plan circuit ≡ circuit_row plan at = ap (λ (n : ℕ). circuit_row plan (record { 0 = n })) (eqb-true circuit.0 at.0 same) in
          let rows : Some other ≡ Some row = sym other_is ∙ (place ∙ is) in
          let equal : other ≡ row = cc (rows) in
          eq-eqb other.edge.0 row.edge.0 (ap (λ (r : CircuitPlan). r.edge.0) equal)

  flooding : Floods plan (edge_at calm row.edge) (arrival.Circuit at) row.service frame port work.effects
  flooding = subst (λ (w : Work). Floods plan (edge_at calm row.edge) (arrival.Circuit at) row.service frame port w.effects) (sym bridged)
      (floods plan (arrival.Circuit at) row.service frame port (edge_at calm row.edge))

  sends : (sent : ℕ) → Floods plan (edge_at calm row.edge) (arrival.Circuit at) row.service frame port work.effects
      → AllByRecursion (IsNearCopy plan calm row.service frame) (packets_of row.edge origin 0 sent work.effects)
  sends sent (FloodsNot none) = subst (λ (es : List Effect). AllByRecursion (IsNearCopy plan calm row.service frame) (packets_of row.edge origin 0 sent es)) (sym none) tt
  sends sent (FloodsBy from found all) =
      both_hold (CarriesCopy plan calm row.service frame) (HasPassed plan) (packets_of row.edge origin 0 sent work.effects)
      (copies_carry plan calm calm row.edge origin 0 sent (arrival.Circuit at) row.service frame from work.effects checked ruled (still_self calm) quiet settled sized all)
      (copies_near plan (edge_at calm row.edge) row.edge origin 0 sent (arrival.Circuit at) row.service frame from work.effects
      (λ peer wire of_arrival bytes copy r r_is. first_hop plan row.edge peer r) all)

  nowhere_else : (circuit : CircuitId) (other : NetworkState) → is_site plan calm row.service circuit ≡ false
      → Floods plan (edge_at calm row.edge) (arrival.Circuit at) row.service frame port work.effects
      → times_left origin circuit (all_entries_of row.edge origin 0 work.effects other) ≡ 0
  nowhere_else circuit other away (FloodsNot none) = ap (λ (es : List Effect). times_left origin circuit (all_entries_of row.edge origin 0 es other)) none
  nowhere_else circuit other away (FloodsBy from found all) =
      none_elsewhere plan calm calm row.edge origin 0 (arrival.Circuit at) row.service frame from circuit work.effects other placed ((still_self calm).edges row.edge.0) away all

  absorbed : Serves plan calm row.service frame origin (owed_reached plan calm row.service at) (absorb row.edge origin 0 work base)
  absorbed =
      serves_absorb plan calm row.service frame origin (owed_reached plan calm row.service at) row.edge 0 work base rest
      (λ sent. sends sent flooding) balanced (λ circuit other away. nowhere_else circuit other away flooding)
      (λ other. left_within 12 origin 0 row.edge origin work.effects other (omega arith))

  -- the frame enters
  pub entering_is : frame_event plan at octets (Some row) calm ≡ entering calm at octets row (frame_work plan calm at octets row)
  entering_is = ap (λ (b : Bool). cond b (idle calm) (entering calm at octets row work)) applies

  -- what it serves as it does
  pub entering_serves : Serves plan calm row.service frame origin (owed_reached plan calm row.service at) (frame_event plan at octets (Some row) calm)
  entering_serves = subst (Serves plan calm row.service frame origin (owed_reached plan calm row.service at)) (sym entering_is)
      (serves_in plan calm row.service frame origin (owed_reached plan calm row.service at) at origin octets (absorb row.edge origin 0 work base) absorbed)
