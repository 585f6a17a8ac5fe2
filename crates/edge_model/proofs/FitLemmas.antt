-- The maximum of each session of an edge is one that a session can have, whatever comes.
use Rattle.std.proofs.Common.{◌≡◌, ◌≤◌, ℕ, Bool, true, false, List, [], ◌∷◌, Option, Some, None, cond, min, refl, sym, ap, subst, nat_eq, nat_le, option_map, arith}
use Rattle.std.proofs.lemmas.Bool.{eqb-true}
use Rattle.net_base.specs.declared.plan.Plan.{Plan}
use Rattle.net_base.specs.declared.plan.circuit_plan.CircuitPlan.{CircuitPlan}
use Rattle.net_base.specs.declared.plan.places.CircuitId.{CircuitId}
use Rattle.net_base.specs.declared.plan.places.EdgeId.{EdgeId}
use Rattle.net_base.specs.declared.plan.places.WireId.{WireId}
use Rattle.net_base.specs.declared.trace.state_name.Reason.{Reason}
use Rattle.net_base.specs.declared.trace.state_name.Reason.TheVariants as reason
use Rattle.net_base.specs.plan.Places.{wire_row}
use Rattle.ldp_grammar.specs.declared.message.Message.{Message}
use Rattle.ldp_grammar.specs.declared.message.Message.TheVariants.{Notification, Initialization, KeepAlive}
use Rattle.ldp_grammar.specs.declared.pdu.Pdu.{Pdu}
use Rattle.ldp_grammar.specs.declared.session_params.SessionParams.{SessionParams}
use Rattle.pw_tlvs.specs.declared.pw_fec.PwFec.{PwFec}
use Rattle.pw_tlvs.specs.declared.pw_status.PwStatus.{PwStatus}
use Rattle.pw_signalling.specs.End.{EndState}
use Rattle.pw_signalling.specs.Rows.{bound, group_stated, group_unbound, released, stated, unbound}
use Rattle.session_core.specs.declared.refusal.Refusal.{Refusal}
use Rattle.session_core.specs.declared.reply.Reply.{Reply}
use Rattle.session_core.specs.declared.reply.Reply.TheVariants as reply
use Rattle.session_core.specs.Parameters as parameters
use Rattle.session_core.specs.Parameters.{is_platform, longest}
use Rattle.session_core.specs.Phase.{Phase}
use Rattle.session_core.specs.Phase as phase
use Rattle.session_core.specs.Session.{phase_name}
use Rattle.session_core.specs.State.{SessionState, is_active}
use Rattle.session_core.specs.StatusCodes.{about_none, bad_ldp_identifier, keep_alive_timer_expired}
use Rattle.session_core.specs.Table.{SessionEvent, Outcome, Stay, Goes, Ends, Start, Heard, Received, Refused, Spoke, Ticked, Closed, is_expired, is_keep_alive_due, judged, a_tick_later, notified, outcome_of, reason_in, table, ticked_session}
use Rattle.pw_messages.specs.Content.{mac_withdrawal, mapping, release, status_notification, withdrawal}
use Rattle.pw_messages.specs.LinkAnswers.{Answers}
use Rattle.edge_model.specs.Circuit.{turned}
use Rattle.edge_model.specs.Clear.{withdrawing_at}
use Rattle.edge_model.specs.Connection.{opened_with}
use Rattle.edge_model.specs.declared.effect.Effect.TheVariants as effect
use Rattle.edge_model.specs.declared.end_place.EndPlace.{EndPlace}
use Rattle.edge_model.specs.declared.input.Input.{Input}
use Rattle.edge_model.specs.EndPlaces.{end_named}
use Rattle.edge_model.specs.Hear.{hears_pdu}
use Rattle.edge_model.specs.Mend.{advertising, forgetting_wire, telling_status, withdrawing}
use Rattle.edge_model.specs.Parts.{HasFitMaximum, SessionsFit}
use Rattle.edge_model.specs.Put.{Spoken, having_spoken, message_octets_of, octets_of, put_octets, put_replies, put_reply, put_reply_to, puts_on, with_spoken}
use Rattle.edge_model.specs.Role.{status_to_tell}
use Rattle.edge_model.specs.Send.{sends}
use Rattle.edge_model.specs.Session.{clears_ends, comes_of, ends, had_said, happens, happens_to, happens_with_ends, is_same_phase, says, says_to, tells_change, went_on, with_session}
use Rattle.edge_model.specs.Signal.{end_of_fec, with_end_changed, with_named, with_released}
use Rattle.edge_model.specs.State.{EdgeState, Peering, with_addresses, with_bits, with_chosen, with_circuit, with_end, with_ends_beside, with_learned, with_next_label, with_next_ping, with_peering, with_priority, with_renewed, with_ticks, with_told_down, with_wire, without_ends, without_peerings, with_kept}
use Rattle.edge_model.specs.Step.{edge_step}
use Rattle.edge_model.specs.Wire.{turned_wire}
use Rattle.edge_model.specs.Work.{Work, changes, gives, idles, next_answer, puts}
use Rattle.edge_model.proofs.BridgeLemmas.{forgetting_only, sends_bridges, withdrawing_only}
use Rattle.edge_model.proofs.HeldLemmas.{clears_keep}
use Rattle.edge_model.proofs.WalkLemmas.{HearSteps, InputSteps, MendSteps, hears_pdu_holds, step_holds}

-- ---- the table of a session

-- the session goes on with such a maximum
abbrev FitsAfter : Outcome → Type 0
FitsAfter Stay = Unit {0}
FitsAfter (Goes next replies) = next.max_pdu ≤ 4096
FitsAfter (Ends why replies) = Unit {0}

longest_fits : (own n : ℕ) → min own (longest n) ≤ 4096
longest_fits own n = by (nat_le n 255) where
  by : (b : Bool) → min own (cond b 4096 (min n 4096)) ≤ 4096
  by true = omega arith
  by false = omega arith

judged_fits : (why : Option Refusal) (s : SessionState) (message : Message) (params : SessionParams) (replies : List Reply) → FitsAfter (judged why s message params replies)
judged_fits None s message params replies = longest_fits s.peers.max_pdu params.max_pdu
judged_fits (Some why) s message params replies = tt

notified_fits : (why : Option Reason) (s : SessionState) (message : Message) → FitsAfter (notified why s message)
notified_fits None s message = tt
notified_fits (Some why) s message = tt

either_fits : (goes : Bool) (why : Reason) (s : SessionState) (replies last : List Reply) → s.max_pdu ≤ 4096 → FitsAfter (cond goes (Goes s replies) (Ends why last))
either_fits true why s replies last fits = fits
either_fits false why s replies last fits = tt

ticked_fits : (s : SessionState) → s.max_pdu ≤ 4096 → FitsAfter (ticked_session s)
ticked_fits s fits = by (is_expired s) where
  by : (expired : Bool) → FitsAfter (cond expired (Ends reason.Expired (about_none keep_alive_timer_expired ∷ [])) (Goes s (cond (is_keep_alive_due s) (reply.KeepAlive ∷ []) [])))
  by true = tt
  by false = fits

table_fits : (state : Phase) (event : SessionEvent) (active : Bool) (s : SessionState) → s.max_pdu ≤ 4096 → FitsAfter (table state event active s)
table_fits phase.Initialized Start true s fits = fits
table_fits phase.Initialized (Received (Initialization id params)) false s fits = judged_fits (parameters.proposal_refusal s.peers params) s (Initialization id params) params _
table_fits phase.OpenSent (Received (Initialization id params)) active s fits = judged_fits (parameters.proposal_refusal s.peers params) s (Initialization id params) params _
table_fits phase.OpenRec (Received (KeepAlive id)) active s fits = fits
table_fits state (Received (Notification id status pw_status fec)) active s fits = notified_fits (reason_in status) s (Notification id status pw_status fec)
table_fits phase.Operational (Received message) active s fits = tt
table_fits state (Received message) active s fits = tt
table_fits state (Heard sender) active s fits = either_fits (is_platform s.peers.peer sender) reason.BadIdentifier (record s { wait = 0 }) [] (about_none bad_ldp_identifier ∷ []) fits
table_fits state (Refused fault) active s fits = tt
table_fits state Spoke active s fits = fits
table_fits state Ticked active s fits = ticked_fits (a_tick_later s) fits
table_fits state (Closed why) active s fits = tt
table_fits state Start active s fits = tt

-- ---- work beside a peer

-- the session beside one place, of whichever peer the work is
abbrev pub Fits : ℕ → Work → Type 0
Fits k work = HasFitMaximum (work.edge.peering k)

-- what is kept for a peer may become this
abbrev FitsFor : ℕ → EdgeId → Option Peering → Type 0
FitsFor k peer kept = nat_eq k peer.0 ≡ true → HasFitMaximum kept

-- what is kept for the peer fits already
fits_now : (k : ℕ) (peer : EdgeId) (work : Work) → Fits k work → FitsFor k peer (work.edge.peering peer.0)
fits_now k peer work fits here = subst (λ (n : ℕ). HasFitMaximum (work.edge.peering n)) (eqb-true k peer.0 here) fits

set_fits : (k : ℕ) (peer : EdgeId) (kept : Option Peering) (work : Work) → FitsFor k peer kept → Fits k work → Fits k (changes (with_peering peer kept) work)
unfolding changes with_peering
set_fits k peer kept work mine fits = by (nat_eq k peer.0) mine where
  by : (b : Bool) → (b ≡ true → HasFitMaximum kept) → HasFitMaximum (cond b kept (work.edge.peering k))
  by true own = own refl
  by false own = fits

spoken_fits : (kept : Option Peering) → HasFitMaximum kept → HasFitMaximum (option_map having_spoken kept)
spoken_fits None fits = tt
spoken_fits (Some kept) fits = fits

put_octets_fit : (k : ℕ) (peer : EdgeId) (bytes : List ℕ) (taken : Bool) (work : Work) → Fits k work → Fits k (put_octets peer bytes taken work).work
unfolding changes gives puts with_spoken
put_octets_fit k peer bytes false work fits = fits
put_octets_fit k peer bytes true work fits =
    set_fits k peer (option_map having_spoken (work.edge.peering peer.0)) (puts peer bytes true work) (λ here. spoken_fits (work.edge.peering peer.0) (fits_now k peer work fits here)) fits

put_reply_fits : (told : Answers) (k : ℕ) (peer : EdgeId) (reply : Reply) (kept : Option Peering) (work : Work) → Fits k work → Fits k (put_reply_to told peer reply kept work).work
put_reply_fits told k peer reply None work fits = fits
put_reply_fits told k peer reply (Some kept) work fits = put_octets_fit k peer (octets_of kept reply) (next_answer told work) work fits

put_replies_fit : (told : Answers) (k : ℕ) (peer : EdgeId) (replies : List Reply) (work : Work) → Fits k work → Fits k (put_replies told peer replies work).work
put_replies_fit told k peer [] work fits = fits
put_replies_fit told k peer (reply ∷ replies) work fits =
    let put : Spoken = put_reply told peer reply work in
    let here : Fits k put.work = put_reply_fits told k peer reply (work.edge.peering peer.0) work fits in
    on put.failed put.work here (put_replies_fit told k peer replies put.work here)
  where
    on : (failed : Bool) (next : Work) → Fits k next → Fits k (put_replies told peer replies next).work → Fits k (puts_on (put_replies told peer replies) failed next).work
    on true next here rest = here
    on false next here rest = rest

ends_fit : (k : ℕ) (peer : EdgeId) (why : Reason) (work : Work) → Fits k work → Fits k (ends peer why work)
unfolding gives
ends_fit k peer why work fits = set_fits k peer None work (λ here. tt) fits

tells_fit : (k : ℕ) (peer : EdgeId) (old new : Phase) (work : Work) → Fits k work → Fits k (tells_change peer old new work)
unfolding gives
tells_fit k peer old new work fits = by (is_same_phase old new) where
  by : (same : Bool) → Fits k (cond same work (gives (effect.Session peer (phase_name new)) work))
  by true = fits
  by false = fits

went_on_fits : (k : ℕ) (peer : EdgeId) (old new : Phase) (failed : Bool) (work : Work) → Fits k work → Fits k (went_on peer old new (record { work = work; failed = failed }))
went_on_fits k peer old new true work fits = ends_fit k peer reason.LinkFault work fits
went_on_fits k peer old new false work fits = tells_fit k peer old new work fits

comes_of_fits : (told : Answers) (k : ℕ) (peer : EdgeId) (kept : Peering) (outcome : Outcome) (work : Work) → (nat_eq k peer.0 ≡ true → FitsAfter outcome) → Fits k work
    → Fits k (comes_of told peer kept outcome work)
comes_of_fits told k peer kept Stay work after fits = fits
comes_of_fits told k peer kept (Goes next replies) work after fits =
    let gone : Work = changes (with_peering peer (Some (with_session next kept))) work in
    let put : Spoken = put_replies told peer replies gone in
    went_on_fits k peer kept.session.phase next.phase put.failed put.work (put_replies_fit told k peer replies gone (set_fits k peer (Some (with_session next kept)) work after fits))
comes_of_fits told k peer kept (Ends why replies) work after fits = ends_fit k peer why (put_replies told peer replies work).work (put_replies_fit told k peer replies work fits)

happens_fits : (told : Answers) (k : ℕ) (peer : EdgeId) (event : SessionEvent) (work : Work) → Fits k work → Fits k (happens told peer event work)
happens_fits told k peer event work fits = to (work.edge.peering peer.0) (fits_now k peer work fits) where
  to : (kept : Option Peering) → FitsFor k peer kept → Fits k (happens_to told peer event kept work)
  to None mine = fits
  to (Some kept) mine = comes_of_fits told k peer kept (outcome_of kept.session event) work (λ here. table_fits kept.session.phase event (is_active kept.session.peers) kept.session (mine here)) fits

-- where the sessions are the same they fit
same_fits : (k : ℕ) (old new : Work) → new.edge.peering ≡ old.edge.peering → Fits k old → Fits k new
same_fits k old new same fits = subst HasFitMaximum (ap (λ (peering : ℕ → Option Peering). peering k) (sym same)) fits

clears_fit : (k : ℕ) (peer : EdgeId) (work : Work) → Fits k work → Fits k (clears_ends peer work)
clears_fit k peer work fits = same_fits k work (clears_ends peer work) (clears_keep peer work) fits

pub with_ends_fit : (told : Answers) (k : ℕ) (peer : EdgeId) (event : SessionEvent) (work : Work) → Fits k work → Fits k (happens_with_ends told peer event work)
with_ends_fit told k peer event work fits = clears_fit k peer (happens told peer event work) (happens_fits told k peer event work fits)

had_said_fits : (k : ℕ) (peer : EdgeId) (failed : Bool) (work : Work) → Fits k work → Fits k (had_said peer (record { work = work; failed = failed })).work
had_said_fits k peer true work fits = clears_fit k peer (ends peer reason.LinkFault work) (ends_fit k peer reason.LinkFault work fits)
had_said_fits k peer false work fits = clears_fit k peer work fits

says_fits : (told : Answers) (k : ℕ) (peer : EdgeId) (message : ℕ → Message) (work : Work) → Fits k work → Fits k (says told peer message work).work
says_fits told k peer message work fits = to (work.edge.peering peer.0) where
  to : (kept : Option Peering) → Fits k (says_to told peer message kept work).work
  to None = fits
  to (Some kept) =
      let bytes : List ℕ = message_octets_of kept message in
      let put : Spoken = put_octets peer bytes (next_answer told work) work in
      had_said_fits k peer put.failed put.work (put_octets_fit k peer bytes (next_answer told work) work fits)

-- ---- all that an edge does

-- it keeps a fit maximum
abbrev pub FitsOn : ℕ → Work → Work → Type 0
FitsOn k a b = Fits k a → Fits k b

-- what leaves the sessions as they were
changes_fit : (k : ℕ) (change : EdgeState → EdgeState) (work : Work) → (change work.edge).peering ≡ work.edge.peering → FitsOn k work (changes change work)
unfolding changes
changes_fit k change work same fits = same_fits k work (changes change work) same fits

pub changed_keeps : (change : EndState → EndState) (place : Option EndPlace) (edge : EdgeState) → (with_end_changed change place edge).peering ≡ edge.peering
unfolding with_end with_kept
changed_keeps change None edge = refl
changed_keeps change (Some place) edge = refl

pub released_keeps : (label : Option ℕ) (place : Option EndPlace) (edge : EdgeState) → (with_released label place edge).peering ≡ edge.peering
unfolding with_end with_kept
released_keeps label None edge = refl
released_keeps label (Some place) edge = refl

pub named_keeps : (plan : Plan) (peer : EdgeId) (fec : PwFec) (one all : EndState → EndState) (pw_id : Option ℕ) (edge : EdgeState)
    → (with_named plan peer fec one all pw_id edge).peering ≡ edge.peering
unfolding with_ends_beside with_kept
named_keeps plan peer fec one all None edge = refl
named_keeps plan peer fec one all (Some pw_id) edge = changed_keeps one (end_named plan edge.me peer pw_id) edge

pub turned_keeps : (plan : Plan) (circuit : CircuitId) (row : CircuitPlan) (on : Bool) (edge : EdgeState) → (turned plan circuit row on edge).peering ≡ edge.peering
unfolding with_addresses with_circuit
turned_keeps plan circuit row true edge = refl
turned_keeps plan circuit row false edge = refl

pub turned_wire_keeps : (wire : WireId) (on : Bool) (edge : EdgeState) → (turned_wire wire on edge).peering ≡ edge.peering
unfolding with_renewed with_wire
turned_wire_keeps wire true edge = refl
turned_wire_keeps wire false edge = refl

mend_steps : (plan : Plan) (told : Answers) (k : ℕ) → MendSteps plan told (FitsOn k)
unfolding changes gives with_chosen with_end with_next_label with_told_down with_kept
mend_steps plan told k = record {
  same = λ work fits. fits;
  joined = λ a b c first next fits. next (first fits);
  advertises = λ place label content work is idle wished given fits.
      says_fits told k place.peer (mapping place.pw_id label content) (changes (advertising place label content) work) fits;
  withdraws = λ place label content work is advertised wished fits. says_fits told k place.peer (withdrawal place.pw_id label content) (changes (withdrawing place) work) fits;
  chooses = λ work fits. fits;
  tells_status = λ place label content last work is advertised told_it other fits.
      let status : PwStatus = status_to_tell plan work.edge place in
      says_fits told k place.peer (status_notification place.pw_id status content) (changes (telling_status place status) work) fits;
  tells_piece = λ place label content addresses work advertised fits. says_fits told k place.peer (mac_withdrawal place.pw_id addresses content) work fits;
  forgets_wire = λ place why work is terminal down. same_fits k work (changes (forgetting_wire plan place.wire (wire_row plan place.wire)) work)
      (forgetting_only plan place.wire (wire_row plan place.wire) work).edge.peering;
  tells_down = λ place work is terminal other fits. fits;
}

hear_steps : (plan : Plan) (told : Answers) (k : ℕ) → HearSteps plan told (FitsOn k)
hear_steps plan told k = record {
  mend = mend_steps plan told k;
  happens = λ peer event work fits. with_ends_fit told k peer event work fits;
  advises = λ peer reply work fits.
      let put : Spoken = put_reply told peer reply work in
      had_said_fits k peer put.failed put.work (put_reply_fits told k peer reply (work.edge.peering peer.0) work fits);
  holds = λ peer kept octets work is fits.
      set_fits k peer (Some (record kept { held = octets })) work (λ here. subst HasFitMaximum is (fits_now k peer work fits here)) fits;
  releases = λ peer fec label work fits. says_fits told k peer (release fec label) work fits;
  binds = λ peer fec place binding work there is taken fits. changes_fit k (with_end_changed (bound binding) (Some place)) work (changed_keeps (bound binding) (Some place) work.edge) fits;
  unbinds = λ peer fec label work there fits.
      changes_fit k (with_named plan peer fec (unbound label) (group_unbound fec.group) fec.pw_id) work (named_keeps plan peer fec (unbound label) (group_unbound fec.group) fec.pw_id work.edge) fits;
  released = λ peer fec label work there fits.
      changes_fit k (λ edge. with_released label (end_of_fec plan edge peer fec) edge) work (released_keeps label (end_of_fec plan work.edge peer fec) work.edge) fits;
  states = λ peer fec status work there fits.
      changes_fit k (with_named plan peer fec (stated status) (group_stated fec.group status) fec.pw_id) work
      (named_keeps plan peer fec (stated status) (group_stated fec.group status) fec.pw_id work.edge) fits;
  clears = λ service addresses from work. same_fits k work (changes (withdrawing_at service addresses from) work) (withdrawing_only service addresses from work).edge.peering;
}

input_steps : (plan : Plan) (told : Answers) (k : ℕ) → InputSteps plan told (FitsOn k)
unfolding changes gives idles with_addresses with_bits with_learned with_next_ping with_priority with_ticks without_ends without_peerings with_kept
input_steps plan told k = record {
  hear = hear_steps plan told k;
  idles = λ work fits. fits;
  opens = λ peer own other work none fits. set_fits k peer (Some (opened_with own other)) work (λ here. omega arith) fits;
  restarts = λ work fits. tt;
  meets = λ peer work none fits. fits;
  counts = λ work fits. fits;
  forgets = λ work fits. fits;
  turns = λ circuit row on work fits. changes_fit k (turned plan circuit row on) work (turned_keeps plan circuit row on work.edge) fits;
  turns_wire = λ wire on work fits. changes_fit k (turned_wire wire on) work (turned_wire_keeps wire on work.edge) fits;
  sets_bits = λ wire bits work fits. fits;
  sets_priority = λ wire priority work fits. fits;
  learns = λ service frame arrival work fits. fits;
  leaves = λ circuit octets work fits. fits;
  drops = λ cause work fits. fits;
  sends_packet = λ place came octets work. same_fits k work (sends told place came octets work) (sends_bridges told place came octets work).edge.peering;
  numbers_ping = λ wire work fits. fits;
  tells_answer = λ wire sequence work fits. fits;
}

pub hears_pdu_fits : (plan : Plan) (told : Answers) (k : ℕ) (peer : EdgeId) (pdu : Pdu) (work : Work) → FitsOn k work (hears_pdu plan told peer pdu work)
hears_pdu_fits plan told k peer pdu work = hears_pdu_holds plan told (FitsOn k) (hear_steps plan told k) peer pdu work

-- whatever comes
pub step_fits : (plan : Plan) (told : Answers) (input : Input) (work : Work) → SessionsFit work.edge → SessionsFit (edge_step plan told input work).edge
step_fits plan told input work fit k = step_holds plan told (FitsOn k) (input_steps plan told k) input work (fit k)
