-- What the inputs of an edge leave of its connections.
use Rattle.std.proofs.Common.{◌≡◌, ◌⊎◌, ◌∙◌, ◌&&◌, nat_eq, ℕ, Bool, true, false, cond, not, List, length, slice_get, Option, Some, None, inl, inr, refl, ap}
use Rattle.std.proofs.lemmas.Bool.{eqb-true}
use Rattle.net_base.specs.declared.plan.Plan.{Plan}
use Rattle.net_base.specs.declared.plan.circuit_plan.CircuitPlan.{CircuitPlan}
use Rattle.net_base.specs.declared.plan.edge_plan.EdgePlan.{EdgePlan}
use Rattle.net_base.specs.declared.plan.places.CircuitId.{CircuitId}
use Rattle.net_base.specs.declared.plan.places.EdgeId.{EdgeId}
use Rattle.net_base.specs.declared.plan.places.WireId.{WireId}
use Rattle.net_base.specs.declared.trace.state_name.Reason.TheVariants as reason
use Rattle.net_base.specs.declared.trace.state_name.StateName.TheVariants as name
use Rattle.net_base.specs.plan.Paths.{are_joined}
use Rattle.net_base.specs.plan.Places.{wire_row}
use Rattle.pw_tlvs.specs.declared.pw_status.PwStatus.{PwStatus}
use Rattle.pw_messages.specs.Content.{mac_withdrawal, mapping, release, status_notification, withdrawal}
use Rattle.pw_messages.specs.LinkAnswers.{Answers}
use Rattle.pw_signalling.specs.Rows.{bound, group_stated, group_unbound, stated, unbound}
use Rattle.session_core.specs.Table as table
use Rattle.edge_model.specs.declared.effect.Effect.{Effect}
use Rattle.edge_model.specs.declared.effect.Effect.TheVariants as effect
use Rattle.edge_model.specs.declared.end_place.EndPlace.{EndPlace}
use Rattle.edge_model.specs.Circuit.{circuit_input, is_same, turned}
use Rattle.edge_model.specs.Connection.{connected_input, connects_between, lost_input, opened_with, restart_input}
use Rattle.edge_model.specs.EndPlaces.{ends_here, passes}
use Rattle.edge_model.specs.Frame.{is_own}
use Rattle.edge_model.specs.Hear.{hears_on, octets_input}
use Rattle.edge_model.specs.Labels.{meeting}
use Rattle.edge_model.specs.Mend.{advertising, mends, telling_status, withdrawing}
use Rattle.edge_model.specs.Role.{down_at, status_to_tell}
use Rattle.edge_model.specs.Session.{happens_with_ends}
use Rattle.edge_model.specs.Signal.{end_of_fec, with_end_changed, with_named, with_released}
use Rattle.edge_model.specs.Spokes.{choosing}
use Rattle.edge_model.specs.State.{EdgeState, Peering, has_end, is_on, is_there, with_bits, with_chosen, with_end, with_kept, with_learned, with_peering, with_priority, with_ticks, with_told_down, without_ends, without_peerings}
use Rattle.edge_model.specs.Tick.{counted, forgetting, tick_input, ticks_sessions}
use Rattle.edge_model.specs.Wire.{is_own_spoke, priority_input, status_input, turned_wire, wire_input}
use Rattle.edge_model.specs.Work.{Work, changes, gives, idles}
use Rattle.edge_model.proofs.BridgeLemmas.{forgetting_only, withdrawing_only}
use Rattle.edge_model.proofs.WalkLemmas.{HearSteps, MendSteps, hears_on_holds, mends_holds, ticks_hold}
use Rattle.edge_model.proofs.CommonLemmas.{advertising_changed}
use Rattle.edge_model.proofs.FitLemmas.{named_keeps, turned_wire_keeps, changed_keeps, released_keeps, turned_keeps}
use Rattle.connection_laws.proofs.EndLemmas.{Stood, advice_stood, happens_stood, holds_stood, says_stood, stood_not, stood_same, stood_then}

-- ---- changes of an edge that are no matter of its connections

pub withdrawing_changed : (place : EndPlace) (edge : EdgeState) → (withdrawing place edge).peering ≡ edge.peering
unfolding with_end
withdrawing_changed place edge = refl

pub telling_changed : (place : EndPlace) (status : PwStatus) (edge : EdgeState) → (telling_status place status edge).peering ≡ edge.peering
unfolding with_end
telling_changed place status edge = refl

module _ (may : ℕ → Bool) where
  changes_stood : (change : EdgeState → EdgeState) (work : Work) → (change work.edge).peering ≡ work.edge.peering → Stood may work (changes change work)
  unfolding changes
  changes_stood change work same = stood_same may work (changes change work) same

  gives_stood : (e : Effect) (work : Work) → Stood may work (gives e work)
  unfolding gives
  gives_stood e work = record { each = λ k is. inl is }

  idles_stood : (work : Work) → Stood may work (idles work)
  unfolding idles
  idles_stood work = record { each = λ k is. inl is }

  mend_steps : (plan : Plan) (told : Answers) → MendSteps plan told (Stood may)
  unfolding with_chosen with_told_down
  mend_steps plan told = record {
    same = stood_not may;
    joined = stood_then may;
    advertises = λ place label content work here idle wished given.
        stood_then may work (changes (advertising place label content) work) _ (changes_stood (advertising place label content) work (advertising_changed place label content work.edge))
        (says_stood may told place.peer (mapping place.pw_id label content) (changes (advertising place label content) work));
    withdraws = λ place label content work here is wished.
        stood_then may work (changes (withdrawing place) work) _ (changes_stood (withdrawing place) work (withdrawing_changed place work.edge))
        (says_stood may told place.peer (withdrawal place.pw_id label content) (changes (withdrawing place) work));
    chooses = λ work. changes_stood (choosing plan) work refl;
    tells_status = λ place label content last work here is status other.
        stood_then may work (changes (telling_status place (status_to_tell plan work.edge place)) work) _
        (changes_stood (telling_status place (status_to_tell plan work.edge place)) work (telling_changed place (status_to_tell plan work.edge place) work.edge))
        (says_stood may told place.peer (status_notification place.pw_id (status_to_tell plan work.edge place) content) (changes (telling_status place (status_to_tell plan work.edge place)) work));
    tells_piece = λ place label content addresses work is. says_stood may told place.peer (mac_withdrawal place.pw_id addresses content) work;
    forgets_wire = λ place why work here terminal is. stood_same may work _ (forgetting_only plan place.wire (wire_row plan place.wire) work).edge.peering;
    tells_down = λ place work here terminal other.
        stood_then may work (changes (with_told_down place.wire (down_at plan work.edge place)) work) _
        (changes_stood (with_told_down place.wire (down_at plan work.edge place)) work refl)
        (gives_stood (effect.Wire place.wire (down_at plan work.edge place)) (changes (with_told_down place.wire (down_at plan work.edge place)) work));
  }

  hear_steps : (plan : Plan) (told : Answers) → HearSteps plan told (Stood may)
  hear_steps plan told = record {
    mend = mend_steps plan told;
    happens = happens_stood may told;
    advises = advice_stood may told;
    holds = λ peer kept octets work is. holds_stood may peer kept (record kept { held = octets }) work is;
    releases = λ peer fec label work. says_stood may told peer (release fec label) work;
    binds = λ peer fec place binding work there is taken. changes_stood (with_end_changed (bound binding) (Some place)) work (changed_keeps (bound binding) (Some place) work.edge);
    unbinds = λ peer fec label work there.
        changes_stood (with_named plan peer fec (unbound label) (group_unbound fec.group) fec.pw_id) work (named_keeps plan peer fec (unbound label) (group_unbound fec.group) fec.pw_id work.edge);
    released = λ peer fec label work there.
        changes_stood (λ edge. with_released label (end_of_fec plan edge peer fec) edge) work (released_keeps label (end_of_fec plan work.edge peer fec) work.edge);
    states = λ peer fec status work there.
        changes_stood (with_named plan peer fec (stated status) (group_stated fec.group status) fec.pw_id) work
        (named_keeps plan peer fec (stated status) (group_stated fec.group status) fec.pw_id work.edge);
    clears = λ service addresses from work. stood_same may work _ (withdrawing_only service addresses from work).edge.peering;
  }

  mends_stood : (plan : Plan) (told : Answers) (work : Work) → Stood may work (mends plan told work)
  mends_stood plan told work = mends_holds plan told (Stood may) (mend_steps plan told) work

  changed_stood : (plan : Plan) (told : Answers) (change : EdgeState → EdgeState) (work : Work) → (change work.edge).peering ≡ work.edge.peering
      → Stood may work (mends plan told (changes change work))
  changed_stood plan told change work same = stood_then may work (changes change work) _ (changes_stood change work same) (mends_stood plan told (changes change work))

  -- ---- inputs

  either : (b : Bool) (old one : Work) → Stood may old one → Stood may old (cond b one (idles old))
  either true old one is = is
  either false old one is = idles_stood old

  pub octets_stood : (plan : Plan) (told : Answers) (peer : EdgeId) (octets : List ℕ) (kept : Option Peering) (work : Work) → Stood may work (octets_input plan told peer octets kept work)
  octets_stood plan told peer octets None work = idles_stood work
  octets_stood plan told peer octets (Some kept) work =
      stood_then may work (hears_on plan told peer octets (Some kept) work) _ (hears_on_holds plan told (Stood may) (hear_steps plan told) peer octets (Some kept) work)
      (mends_stood plan told (hears_on plan told peer octets (Some kept) work))

  pub lost_stood : (plan : Plan) (told : Answers) (peer : EdgeId) (work : Work) → Stood may work (lost_input plan told peer work)
  lost_stood plan told peer work =
      either (has_end work.edge peer) work _
      (stood_then may work (happens_with_ends told peer (table.Closed reason.Closed) work) _ (happens_stood may told peer (table.Closed reason.Closed) work)
      (mends_stood plan told (happens_with_ends told peer (table.Closed reason.Closed) work)))

  pub tick_stood : (plan : Plan) (told : Answers) (work : Work) → Stood may work (tick_input plan told work)
  unfolding with_ticks with_kept with_learned
  tick_stood plan told work =
      let first : Work = changes counted work in
      let ticked : Work = ticks_sessions told 0 (length plan.edges) first in
      stood_then may work first _ (changes_stood counted work refl)
      (stood_then may first ticked _ (ticks_hold plan told (Stood may) (hear_steps plan told) 0 (length plan.edges) first) (changed_stood plan told (forgetting plan) ticked refl))

  pub circuit_stood : (plan : Plan) (told : Answers) (circuit : CircuitId) (on : Bool) (row : Option CircuitPlan) (work : Work) → Stood may work (circuit_input plan told circuit on row work)
  circuit_stood plan told circuit on None work = idles_stood work
  circuit_stood plan told circuit on (Some row) work =
      either (is_own work.edge row && not (is_same on (is_on work.edge circuit))) work _ (changed_stood plan told (turned plan circuit row on) work (turned_keeps plan circuit row on work.edge))

  pub wire_stood : (plan : Plan) (told : Answers) (wire : WireId) (on : Bool) (work : Work) → Stood may work (wire_input plan told wire on work)
  wire_stood plan told wire on work =
      either (passes plan work.edge.me wire && not (is_same on (work.edge.wire_on wire.0))) work _ (changed_stood plan told (turned_wire wire on) work (turned_wire_keeps wire on work.edge))

  pub status_stood : (plan : Plan) (told : Answers) (wire : WireId) (bits : ℕ) (work : Work) → Stood may work (status_input plan told wire bits work)
  unfolding with_bits
  status_stood plan told wire bits work =
      either (ends_here plan work.edge.me wire && not (nat_eq bits (work.edge.bits wire.0))) work _ (changed_stood plan told (with_bits wire bits) work refl)

  pub priority_stood : (plan : Plan) (told : Answers) (wire : WireId) (priority : ℕ) (work : Work) → Stood may work (priority_input plan told wire priority work)
  unfolding with_priority
  priority_stood plan told wire priority work =
      either (is_own_spoke work.edge.me (wire_row plan wire) && not (nat_eq priority (work.edge.priority wire.0))) work _ (changed_stood plan told (with_priority wire priority) work refl)

  pub restart_stood : (work : Work) → Stood may work (restart_input work)
  unfolding changes without_ends with_learned without_peerings with_kept
  restart_stood work = record { each = λ k is. absurd (cc (is)) }

  -- ---- a connection comes up: the end with this peer may have come to stand

  opened_stood : (peer : EdgeId) (kept : Peering) (work : Work) → may peer.0 ≡ true → Stood may work (changes (with_peering peer (Some kept)) work)
  unfolding changes with_peering
  opened_stood peer kept work allowed = record { each = λ k is. by k (nat_eq k peer.0) refl is }
    where
      by : (k : ℕ) (test : Bool) → nat_eq k peer.0 ≡ test → is_there (cond test (Some kept) (work.edge.peering k)) ≡ true → (is_there (work.edge.peering k) ≡ true) ⊎ (may k ≡ true)
      by k true here there = inr (ap may (eqb-true k peer.0 here) ∙ allowed)
      by k false away there = inl there

  pub connected_stood : (plan : Plan) (told : Answers) (peer : EdgeId) (work : Work) → may peer.0 ≡ true → Stood may work (connected_input plan told peer work)
  unfolding with_kept
  connected_stood plan told peer work allowed =
      either (are_joined plan work.edge.me.0 peer.0 && not (has_end work.edge peer)) work _ (between (slice_get plan.edges work.edge.me.0) (slice_get plan.edges peer.0))
    where
      between : (first second : Option EdgePlan) → Stood may work (connects_between plan told peer first second work)
      between None second = idles_stood work
      between (Some first) None = idles_stood work
      between (Some first) (Some second) =
          let met : Work = changes (meeting peer) work in
          let stands : Work = changes (with_peering peer (Some (opened_with first second))) met in
          let began : Work = gives (effect.Session peer name.Initialized) stands in
          let started : Work = happens_with_ends told peer table.Start began in
          stood_then may work met _ (changes_stood (meeting peer) work refl)
          (stood_then may met stands _ (opened_stood peer (opened_with first second) met allowed)
          (stood_then may stands began _ (gives_stood (effect.Session peer name.Initialized) stands)
          (stood_then may began started _ (happens_stood may told peer table.Start began) (mends_stood plan told started))))
