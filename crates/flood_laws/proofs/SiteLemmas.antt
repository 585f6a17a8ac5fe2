-- The sites of a service in a window: which of them an edge serves, and that copies leave at no other circuit.
use Rattle.std.proofs.Common.{◌≡◌, ◌≤◌, ◌&&◌, ◌∙◌, ◌⊎◌, ℕ, Bool, true, false, List, [], ◌∷◌, Option, Some, None, cond, nat_eq, refl, ap, sym, inl, inr, arith}
use Rattle.std.proofs.lemmas.Bool.{cases_Bool, eqb-true, and_from}
use Rattle.net_values.proofs.BoolLemmas.{first_holds, second_holds}
use Rattle.net_base.specs.declared.plan.Plan.{Plan}
use Rattle.net_base.specs.declared.plan.circuit_plan.CircuitPlan.{CircuitPlan}
use Rattle.net_base.specs.declared.plan.places.CircuitId.{CircuitId}
use Rattle.net_base.specs.declared.plan.places.EdgeId.{EdgeId}
use Rattle.net_base.specs.declared.plan.places.ServiceId.{ServiceId}
use Rattle.net_base.specs.declared.trace.arrival.Arrival.{Arrival}
use Rattle.net_base.specs.plan.Places.{circuit_row}
use Rattle.hvpls_spokes.specs.declared.port.Port.TheVariants as port
use Rattle.hvpls_spokes.proofs.PortsLemmas.{served_at}
use Rattle.edge_model.specs.Copies.{AllAreCopies, LeftCopy}
use Rattle.edge_model.specs.declared.effect.Effect.{Effect}
use Rattle.edge_model.specs.declared.effect.Effect.TheVariants as effect
use Rattle.edge_model.specs.Frame.{forwards}
use Rattle.edge_model.specs.State.{EdgeState, is_on, with_learned}
use Rattle.network_model.specs.Absorb.{absorb_one, all_entries_of}
use Rattle.network_model.specs.OnceEach.{LeftWithin, times_left}
use Rattle.network_model.specs.Reach.{is_row_at, is_row_of, is_row_on, is_site}
use Rattle.network_model.specs.State.{NetworkState, edge_at}
use Rattle.flood_laws.specs.Copy.{IsStillEdge}
use Rattle.flood_laws.specs.Due.{serves_here}

-- ---- sites

-- the row of a site
pub record IsSiteOf (plan : Plan) (calm : NetworkState) (service : ServiceId) (circuit : CircuitId) : Type 0 where
  pub row : CircuitPlan
  pub is : circuit_row plan circuit ≡ Some row
  pub of_service : nat_eq row.service.0 service.0 ≡ true
  pub on : is_on (edge_at calm row.edge) circuit ≡ true

-- a site has one
pub site_of : (plan : Plan) (calm : NetworkState) (service : ServiceId) (circuit : CircuitId) → is_site plan calm service circuit ≡ true → IsSiteOf plan calm service circuit
site_of plan calm service circuit site = by (circuit_row plan circuit) refl site where
  by : (row : Option CircuitPlan) → circuit_row plan circuit ≡ row → is_row_of service row && is_row_on calm circuit row ≡ true → IsSiteOf plan calm service circuit
  by None is both = absurd (cc (both))
  by (Some row) is both = record {
    row = row;
    is = is;
    of_service = first_holds (nat_eq row.service.0 service.0) (is_on (edge_at calm row.edge) circuit) both;
    on = second_holds (nat_eq row.service.0 service.0) (is_on (edge_at calm row.edge) circuit) both;
  }

is_site_by : (plan : Plan) (calm : NetworkState) (service : ServiceId) (circuit : CircuitId) → IsSiteOf plan calm service circuit → is_site plan calm service circuit ≡ true
is_site_by plan calm service circuit site =
    ap (λ (row : Option CircuitPlan). is_row_of service row && is_row_on calm circuit row) site.is
    ∙ and_from (nat_eq site.row.service.0 service.0) (is_on (edge_at calm site.row.edge) circuit) site.of_service site.on

-- a circuit that was on when the frame entered is on still
pub still_on : (calm edge : EdgeState) → IsStillEdge calm edge → edge.circuit_on ≡ calm.circuit_on
unfolding with_learned
still_on calm edge still = ap (λ (e : EdgeState). e.circuit_on) still.is

-- an edge serves the sites there
pub site_serves : (plan : Plan) (calm : NetworkState) (service : ServiceId) (circuit : CircuitId) (edge : EdgeState) (place : ℕ) → (site : IsSiteOf plan calm service circuit)
    → edge.me.0 ≡ place → IsStillEdge (calm.edges place) edge → serves_here plan service edge circuit ≡ nat_eq site.row.edge.0 place
site_serves plan calm service circuit edge place site me still =
    ap (λ (row : Option CircuitPlan). (is_row_of service row && is_row_at edge.me.0 row) && is_on edge circuit) site.is
    ∙ (ap (λ (n : ℕ). (nat_eq site.row.service.0 service.0 && nat_eq site.row.edge.0 n) && is_on edge circuit) me
    ∙ by (nat_eq site.row.service.0 service.0) site.of_service (cases_Bool (nat_eq site.row.edge.0 place)))
  where
    here : nat_eq site.row.edge.0 place ≡ true → is_on edge circuit ≡ true
    here same =
        ap (λ (on : ℕ → Bool). on circuit.0) (still_on (calm.edges place) edge still)
        ∙ (ap (λ (n : ℕ). is_on (calm.edges n) circuit) (sym (eqb-true site.row.edge.0 place same)) ∙ site.on)

    by : (of : Bool) → of ≡ true → (nat_eq site.row.edge.0 place ≡ true) ⊎ (nat_eq site.row.edge.0 place ≡ false) → (of && nat_eq site.row.edge.0 place) && is_on edge circuit
        ≡ nat_eq site.row.edge.0 place
    by of is (inl same) = rw (is, same) (here same)
    by of is (inr other) = rw (is, other) refl

-- ---- what leaves

-- a copy leaves at a site
left_site : (plan : Plan) (calm network : NetworkState) (me : EdgeId) (service : ServiceId) (frame : List ℕ) (arrival : ℕ) (at : CircuitId) (bytes : List ℕ)
    → (network.edges me.0).me ≡ me → IsStillEdge (calm.edges me.0) (network.edges me.0) → LeftCopy plan (network.edges me.0) service frame arrival at bytes → is_site plan calm service at ≡ true
left_site plan calm network me service frame arrival at bytes placed still copy =
    let edge : EdgeState = network.edges me.0 in
    let served = served_at plan service edge.me copy.p (port.Circuit at) copy.by.at in
    let on : is_on edge at ≡ true = sym (ap (forwards plan edge) copy.by.at) ∙ copy.by.forwards in
    let there : served.row.edge.0 ≡ me.0 = eqb-true served.row.edge.0 edge.me.0 (second_holds (nat_eq served.row.service.0 service.0) (nat_eq served.row.edge.0 edge.me.0) served.serve)
    ∙ ap (λ (e : EdgeId). e.0) placed in
    is_site_by plan calm service at (record {
      row = served.row;
      is = served.is;
      of_service = first_holds (nat_eq served.row.service.0 service.0) (nat_eq served.row.edge.0 edge.me.0) served.serve;
      on = ap (λ (n : ℕ). is_on (calm.edges n) at) there ∙ (ap (λ (on : ℕ → Bool). on at.0) (sym (still_on (calm.edges me.0) edge still)) ∙ on);
    })

-- so none leaves elsewhere
pub none_elsewhere : (plan : Plan) (calm network : NetworkState) (me : EdgeId) (origin hops : ℕ) (came : Arrival) (service : ServiceId) (frame : List ℕ) (arrival : ℕ) (circuit : CircuitId) (es : List Effect) (base : NetworkState)
    → (network.edges me.0).me ≡ me → IsStillEdge (calm.edges me.0) (network.edges me.0) → is_site plan calm service circuit ≡ false
    → AllAreCopies plan (network.edges me.0) came service frame arrival es → times_left origin circuit (all_entries_of me origin hops es base) ≡ 0
none_elsewhere plan calm network me origin hops came service frame arrival circuit [] base placed still away all = refl
none_elsewhere plan calm network me origin hops came service frame arrival circuit (effect.Left at bytes ∷ es) base placed still away all =
    rw other (omega (arith, none_elsewhere plan calm network me origin hops came service frame arrival circuit es base placed still away all.1, none (nat_eq origin origin)))
  where
    none : (b : Bool) → cond {A = ℕ} (b && false) 1 0 ≡ 0
    none true = refl
    none false = refl

    other : nat_eq at.0 circuit.0 ≡ false
    other = elim (cases_Bool (nat_eq at.0 circuit.0)) [
      | inl same ↦
          let is : is_site plan calm service circuit ≡ true =
          ap (λ (n : ℕ). is_site plan calm service (record { 0 = n })) (sym (eqb-true at.0 circuit.0 same)) ∙ left_site plan calm network me service frame arrival at bytes placed still all.0 in
          absurd (cc (is, away))
      | inr apart ↦ apart
    ]
none_elsewhere plan calm network me origin hops came service frame arrival circuit (effect.Sent peer wire of_arrival bytes ∷ es) base placed still away all =
    none_elsewhere plan calm network me origin hops came service frame arrival circuit es (absorb_one me origin hops (effect.Sent peer wire of_arrival bytes) base) placed still away all.1
none_elsewhere plan calm network me origin hops came service frame arrival circuit (effect.Dropped why ∷ es) base placed still away all =
    none_elsewhere plan calm network me origin hops came service frame arrival circuit es base placed still away all.1
none_elsewhere plan calm network me origin hops came service frame arrival circuit (effect.Said peer bytes ∷ es) base placed still away all = absurd all.0
none_elsewhere plan calm network me origin hops came service frame arrival circuit (effect.Session peer state ∷ es) base placed still away all = absurd all.0
none_elsewhere plan calm network me origin hops came service frame arrival circuit (effect.Wire wire down ∷ es) base placed still away all = absurd all.0
none_elsewhere plan calm network me origin hops came service frame arrival circuit (effect.Pong wire sequence ∷ es) base placed still away all = absurd all.0
none_elsewhere plan calm network me origin hops came service frame arrival circuit (effect.Closed peer ∷ es) base placed still away all = absurd all.0

-- what leaves has passed so many segments as what came
pub left_within : (most number hops : ℕ) (me : EdgeId) (origin : ℕ) (es : List Effect) (network : NetworkState) → hops ≤ most → LeftWithin most number (all_entries_of me origin hops es network)
left_within most number hops me origin [] network within = tt
left_within most number hops me origin (effect.Left at octets ∷ es) network within = (λ same. within, left_within most number hops me origin es network within)
left_within most number hops me origin (effect.Said peer octets ∷ es) network within = left_within most number hops me origin es (absorb_one me origin hops (effect.Said peer octets) network) within
left_within most number hops me origin (effect.Sent peer wire came octets ∷ es) network within =
    left_within most number hops me origin es (absorb_one me origin hops (effect.Sent peer wire came octets) network) within
left_within most number hops me origin (effect.Closed peer ∷ es) network within = left_within most number hops me origin es (absorb_one me origin hops (effect.Closed peer) network) within
left_within most number hops me origin (e ∷ es) network within = left_within most number hops me origin es network within
