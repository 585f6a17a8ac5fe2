-- What an edge of a run gives out names places of the plan.
use Rattle.std.proofs.Common.{◌≡◌, ◌<◌, ◌∙◌, ℕ, Bool, true, false, List, [], ◌∷◌, Option, Some, None, length, slice_get, nat_eq, refl, sym, ap, subst, arith, inl, inr}
use Rattle.std.proofs.lemmas.Bool.{eqb-true}
use Rattle.std.proofs.lemmas.Option.{slice_get_within}
use Rattle.std.specs.List.{AllByRecursion}
use denote.Ref.{Bor}
use Rattle.net_base.specs.declared.plan.Plan.{Plan}
use Rattle.net_base.specs.declared.plan.edge_plan.EdgePlan.{EdgePlan}
use Rattle.net_base.specs.declared.plan.places.CircuitId.{CircuitId}
use Rattle.net_base.specs.declared.plan.places.EdgeId.{EdgeId}
use Rattle.net_base.specs.declared.plan.places.WireId.{WireId}
use Rattle.net_base.specs.plan.Accepted.{IsChecked}
use Rattle.net_base.specs.plan.Places.{circuit_row}
use Rattle.edge_model.specs.declared.effect.Effect.{Effect}
use Rattle.edge_model.specs.declared.effect.Effect.TheVariants as effect
use Rattle.edge_model.specs.declared.input.Input.{Input}
use Rattle.edge_model.specs.declared.input.Input.TheVariants as input
use Rattle.edge_model.specs.Circuit.{circuit_input}
use Rattle.edge_model.specs.Connection.{connected_input, lost_input}
use Rattle.edge_model.specs.Frame.{frame_input}
use Rattle.edge_model.specs.Hear.{octets_input}
use Rattle.edge_model.specs.Packet.{packet_input}
use Rattle.edge_model.specs.Ping.{ping_input}
use Rattle.edge_model.specs.Tick.{tick_input}
use Rattle.edge_model.specs.Wire.{priority_input, status_input, wire_input}
use Rattle.edge_model.specs.Work.{Work}
use Rattle.edge_model.specs.Local.{AllStayAsked, AllStayBehind, AllStayBeside}
use Rattle.edge_model.specs.State.{EdgeState, Peering, is_there}
use Rattle.edge_model.specs.Step.{edge_step}
use Rattle.edge_model.proofs.SessionLemmas.{are_all}
use Rattle.edge_model.proofs.SignalLemmas.{is_of_signalling}
use Rattle.network_model.specs.Absorb.{absorb_one, all_entries_of, begin_at, taken_all}
use Rattle.network_model.specs.State.{NetworkState}
use Rattle.session_core.specs.Laws.{IsAddress}
use Rattle.flight_laws.specs.Ends.{IsOrdered, ends_at, ends_between}
use Rattle.flight_laws.specs.Pair.{StandsIf}
use Rattle.provider_edge.proofs.EffectLemmas.{AreKept, HasPeers, fit_kept, step_kept}
use Rattle.provider_edge.specs.Said.{AllFit}
use Rattle.report_text.specs.Named.{IsArrival}
use Rattle.event_rows.specs.Rows.{IsCircuit, IsNamedEdge}
use Rattle.report_laws.specs.Places.{IsEntryOf}

-- ---- peers are edges of the plan

row_in : (plan : Plan) (a b : ℕ) → IsAddress (ends_at plan a b).peer → b < length plan.edges
row_in plan a b fits = by (slice_get plan.edges a) (slice_get plan.edges b) refl fits.four where
  by : (own other : Option EdgePlan) → slice_get plan.edges b ≡ other → length (ends_between own other).peer.0 ≡ 4 → b < length plan.edges
  by None other is four = absurd (omega (arith, four))
  by (Some own) None is four = absurd (omega (arith, four))
  by (Some own) (Some other) is four = slice_get_within plan.edges b other is

-- an edge of a network in order has its ends with edges of the plan
pub peers_in : (plan : Plan) (network : NetworkState) (k : ℕ) → IsOrdered plan network → HasPeers plan (network.edges k)
peers_in plan network k ordered = record { each = λ peer there. by peer.0 (nat_eq k peer.0) refl ((network.edges k).peering peer.0) refl there } where
  by : (p : ℕ) (same : Bool) → nat_eq k p ≡ same → (kept : Option Peering) → (network.edges k).peering p ≡ kept → is_there kept ≡ true → p < length plan.edges
  by p same is None here there = absurd (cc (there))
  by p true is (Some kept) here there =
      let alone : None ≡ Some kept = sym (ordered.alone k) ∙ (ap (network.edges k).peering (eqb-true k p is) ∙ here) in
      absurd (cc (alone))
  by p false is (Some kept) here there =
      let standing : StandsIf (ends_at plan k p) (ends_at plan p k) (Some kept) = subst (StandsIf (ends_at plan k p) (ends_at plan p k)) here (ordered.two k p is).talk.here in
      row_in plan k p standing.between.one.peer

-- what is given out names places of the plan
pub record FitsAll (plan : Plan) (work : Work) : Type 0 where
  pub fit : AllFit plan work.effects

fits_kept : (plan : Plan) → AreKept plan (FitsAll plan)
fits_kept plan =
    let kept : AreKept plan (λ w. AllFit plan w.effects) = fit_kept plan in
    record {
      changed = λ change w here. record { fit = kept.changed change w here.fit };
      idle = λ w here. record { fit = kept.idle w here.fit };
      left = λ circuit bytes w within here. record { fit = kept.left circuit bytes w within here.fit };
      dropped = λ cause w here. record { fit = kept.dropped cause w here.fit };
      session = λ peer state w within here. record { fit = kept.session peer state w within here.fit };
      wire = λ wire down w within here. record { fit = kept.wire wire down w within here.fit };
      pong = λ wire sequence w within here. record { fit = kept.pong wire sequence w within here.fit };
      gone = λ peer w within here. record { fit = kept.gone peer w within here.fit };
      said = λ peer bytes change w within here. record { fit = kept.said peer bytes change w within here.fit };
      refused = λ peer bytes w here. record { fit = kept.refused peer bytes w here.fit };
      sent = λ peer wire came bytes w within of_wire here. record { fit = kept.sent peer wire came bytes w within of_wire here.fit };
      lost = λ peer bytes w here. record { fit = kept.lost peer bytes w here.fit };
    }

-- so it is before an input
pub begins_fit : (plan : Plan) (network : NetworkState) (me : EdgeId) → FitsAll plan (begin_at network me)
begins_fit plan network me = record { fit = tt }

-- octets that are lent
abbrev pub lent : List ℕ → Bor (List ℕ)
lent octets = record { ref_ptr = (0, 0); now = octets }

-- and on each input
module _ (plan : Plan) (work : Work) (checked : IsChecked plan) (peers : HasPeers plan work.edge) (here : FitsAll plan work) where
  step_fits : (given : Input) → FitsAll plan (edge_step plan taken_all given work)
  step_fits given = step_kept plan (FitsAll plan) (fits_kept plan) checked taken_all given work peers here

  pub connected_fits : (peer : EdgeId) → FitsAll plan (connected_input plan taken_all peer work)
  connected_fits peer = step_fits (input.Connected peer)

  pub octets_fit : (peer : EdgeId) (octets : List ℕ) → FitsAll plan (octets_input plan taken_all peer octets (work.edge.peering peer.0) work)
  octets_fit peer octets = step_fits (input.Octets peer (lent octets))

  pub lost_fits : (peer : EdgeId) → FitsAll plan (lost_input plan taken_all peer work)
  lost_fits peer = step_fits (input.Lost peer)

  pub tick_fits : FitsAll plan (tick_input plan taken_all work)
  tick_fits = step_fits input.Tick

  pub frame_fits : (circuit : CircuitId) (octets : List ℕ) → FitsAll plan (frame_input plan taken_all circuit octets (circuit_row plan circuit) work)
  frame_fits circuit octets = step_fits (input.Frame circuit (lent octets))

  pub packet_fits : (octets : List ℕ) → FitsAll plan (packet_input plan taken_all octets work)
  packet_fits octets = step_fits (input.Packet (lent octets))

  pub circuit_fits : (circuit : CircuitId) (on : Bool) → FitsAll plan (circuit_input plan taken_all circuit on (circuit_row plan circuit) work)
  circuit_fits circuit on = step_fits (input.Circuit circuit on)

  pub wire_fits : (wire : WireId) (on : Bool) → FitsAll plan (wire_input plan taken_all wire on work)
  wire_fits wire on = step_fits (input.Wire wire on)

  pub status_fits : (wire : WireId) (bits : ℕ) → FitsAll plan (status_input plan taken_all wire bits work)
  status_fits wire bits = step_fits (input.Status wire bits)

  pub priority_fits : (wire : WireId) (priority : ℕ) → FitsAll plan (priority_input plan taken_all wire priority work)
  priority_fits wire priority = step_fits (input.Priority wire priority)

  pub ping_fits : (wire : WireId) → FitsAll plan (ping_input plan taken_all wire work)
  ping_fits wire = step_fits (input.Ping wire)

-- ---- what came by circuits and wires of the plan

-- a packet that is sent came by one, or by none
abbrev pub HasComeByPlan : Plan → Effect → Type 0
HasComeByPlan plan (effect.Sent peer wire came octets) = IsArrival plan came
HasComeByPlan plan e = Unit {0}

abbrev pub AllHaveCome : Plan → List Effect → Type 0
AllHaveCome plan es = AllByRecursion (HasComeByPlan plan) es

-- of signalling no packet is
pub signals_come : (plan : Plan) (es : List Effect) → are_all is_of_signalling es ≡ true → AllHaveCome plan es
signals_come plan [] own = tt
signals_come plan (effect.Said peer octets ∷ es) own = (tt, signals_come plan es own)
signals_come plan (effect.Session peer state ∷ es) own = (tt, signals_come plan es own)
signals_come plan (effect.Wire wire down ∷ es) own = (tt, signals_come plan es own)
signals_come plan (effect.Closed peer ∷ es) own = (tt, signals_come plan es own)
signals_come plan (e ∷ es) own = absurd (cc (own))

-- of a frame that came by a circuit
pub frame_comes : (plan : Plan) (circuit : CircuitId) (octets : List ℕ) (es : List Effect) → IsCircuit plan circuit → AllStayBeside plan circuit octets es → AllHaveCome plan es
frame_comes plan circuit octets [] within stay = tt
frame_comes plan circuit octets (effect.Sent peer wire came bytes ∷ es) within stay =
    (subst (IsArrival plan) (sym stay.0.from) within, frame_comes plan circuit octets es within stay.1)
frame_comes plan circuit octets (e ∷ es) within stay = (tt, frame_comes plan circuit octets es within stay.1)

-- of a packet that came by a wire
pub packet_comes : (plan : Plan) (edge : EdgeState) (octets : List ℕ) (es : List Effect) → AllStayBehind plan edge octets es → AllHaveCome plan es
packet_comes plan edge octets [] stay = tt
packet_comes plan edge octets (effect.Sent peer wire came bytes ∷ es) stay = (by stay.0, packet_comes plan edge octets es stay.1) where
  by : Rattle.edge_model.specs.Local.StaysBehind plan edge octets (effect.Sent peer wire came bytes) → IsArrival plan came
  by (inl behind) = subst (IsArrival plan) (sym behind.from) (slice_get_within plan.wires behind.place.wire.0 behind.row behind.by.is)
  by (inr (inl on)) = subst (IsArrival plan) (sym on.from) (slice_get_within plan.wires on.place.wire.0 on.row on.is)
  by (inr (inr back)) = subst (IsArrival plan) (sym back.own) tt
packet_comes plan edge octets (e ∷ es) stay = (tt, packet_comes plan edge octets es stay.1)

-- of a ping, which the edge sends itself
pub ping_comes : (plan : Plan) (edge : EdgeState) (wire : WireId) (es : List Effect) → AllStayAsked plan edge wire es → AllHaveCome plan es
ping_comes plan edge wire [] stay = tt
ping_comes plan edge wire (effect.Sent peer on came bytes ∷ es) stay = (subst (IsArrival plan) (sym stay.0.own) tt, ping_comes plan edge wire es stay.1)
ping_comes plan edge wire (e ∷ es) stay = (tt, ping_comes plan edge wire es stay.1)

-- ---- it is told

pub effects_told : (plan : Plan) (me : EdgeId) (origin hops : ℕ) (es : List Effect) (network : NetworkState) → IsNamedEdge plan me → AllFit plan es → AllHaveCome plan es
    → AllByRecursion (IsEntryOf plan) (all_entries_of me origin hops es network)
effects_told plan me origin hops [] network within fit come = tt
effects_told plan me origin hops (effect.Said peer octets ∷ es) network within fit come =
    ((within, fit.0), effects_told plan me origin hops es (absorb_one me origin hops (effect.Said peer octets) network) within fit.1 come.1)
effects_told plan me origin hops (effect.Sent peer wire came octets ∷ es) network within fit come =
    ((within, (fit.0.0, (fit.0.1, come.0))), effects_told plan me origin hops es (absorb_one me origin hops (effect.Sent peer wire came octets) network) within fit.1 come.1)
effects_told plan me origin hops (effect.Left circuit octets ∷ es) network within fit come = (fit.0, effects_told plan me origin hops es network within fit.1 come.1)
effects_told plan me origin hops (effect.Dropped cause ∷ es) network within fit come = (within, effects_told plan me origin hops es network within fit.1 come.1)
effects_told plan me origin hops (effect.Session peer state ∷ es) network within fit come = ((within, fit.0), effects_told plan me origin hops es network within fit.1 come.1)
effects_told plan me origin hops (effect.Wire wire down ∷ es) network within fit come = ((within, fit.0), effects_told plan me origin hops es network within fit.1 come.1)
effects_told plan me origin hops (effect.Pong wire sequence ∷ es) network within fit come = ((within, fit.0), effects_told plan me origin hops es network within fit.1 come.1)
effects_told plan me origin hops (effect.Closed peer ∷ es) network within fit come =
    effects_told plan me origin hops es (absorb_one me origin hops (effect.Closed peer) network) within fit.1 come.1
