-- What is held of a peer tells nothing of how more is heard: it is read once, before anything is heard.
use Rattle.std.proofs.Common.{◌≡◌, ◌+◌, ◌∙◌, ◌&&◌, ◌||◌, ℕ, zero, suc, Bool, true, false, List, [], ◌∷◌, Option, Some, None, cond, refl, sym, ap, length, nat_eq, option_map, inl, inr}
use Rattle.std.proofs.lemmas.Bool.{cases_Bool, eqb-true, eq-eqb}
use Rattle.net_base.specs.declared.plan.Plan.{Plan}
use Rattle.net_base.specs.declared.plan.wire_plan.WirePlan.{WirePlan}
use Rattle.net_base.specs.declared.plan.places.EdgeId.{EdgeId}
use Rattle.net_base.specs.declared.plan.places.ServiceId.{ServiceId}
use Rattle.net_base.specs.declared.plan.places.WireId.{WireId}
use Rattle.net_base.specs.declared.trace.down.Down.{Down}
use Rattle.net_base.specs.declared.trace.state_name.Reason.{Reason}
use Rattle.net_base.specs.declared.trace.state_name.Reason.TheVariants as reason
use Rattle.net_base.specs.declared.trace.state_name.StateName.TheVariants as name
use Rattle.net_values.specs.declared.mac.Mac.{Mac}
use Rattle.net_base.specs.plan.Paths.{offer_of}
use Rattle.net_base.specs.plan.Places.{wire_row}
use Rattle.pw_messages.specs.Content.{mac_withdrawal, mapping, pw_status_code, release, status_notification, withdrawal, binding_in}
use Rattle.pw_messages.specs.LinkAnswers.{Answers}
use Rattle.hvpls_spokes.specs.declared.edge_role.Role.{Role}
use Rattle.hvpls_spokes.specs.declared.port.Port.{Port}
use Rattle.hvpls_spokes.specs.declared.port.Port.TheVariants as port
use Rattle.hvpls_spokes.specs.Port.{ports_of}
use Rattle.hvpls_spokes.specs.Role as roles
use Rattle.ldp_codec.specs.declared.decode_fault.DecodeFault.{DecodeFault}
use Rattle.ldp_codec.specs.Decoded.{refusal_of}
use Rattle.ldp_grammar.specs.declared.message.Message.{Message}
use Rattle.ldp_grammar.specs.declared.message.Message.TheVariants.{Notification, AddressWithdraw, LabelMapping, LabelWithdraw, LabelRelease}
use Rattle.ldp_grammar.specs.declared.pdu.Pdu.{Pdu}
use Rattle.ldp_grammar.specs.declared.status_code.StatusCode.{StatusCode}
use Rattle.ldp_stream.specs.FrontOf.{Front, More, Got, Bad, front_of}
use Rattle.mac_withdraw.specs.Passing.{is_passed_to}
use Rattle.mac_withdraw.specs.Pieces.{pieces_of}
use Rattle.pw_tlvs.specs.declared.pw_fec.PwFec.{PwFec}
use Rattle.pw_tlvs.specs.declared.pw_status.PwStatus.{PwStatus}
use Rattle.pw_signalling.specs.declared.told.Told.{Told}
use Rattle.pw_signalling.specs.End.{EndState, LocalPart, Idle, Advertised, Withdrawing}
use Rattle.pw_signalling.specs.Rows.{group_stated, group_unbound, stated, unbound, bound}
use Rattle.session_core.specs.declared.reply.Reply.{Reply}
use Rattle.session_core.specs.Phase.{Phase}
use Rattle.session_core.specs.Phase as phase
use Rattle.session_core.specs.Session.{phase_name}
use Rattle.session_core.specs.State.{SessionState, is_active}
use Rattle.session_core.specs.StatusCodes.{about_none, data_of}
use Rattle.session_core.specs.Table.{SessionEvent, Outcome, Stay, Goes, Ends, Heard, Received, Refused, outcome_of, table}
use Rattle.edge_model.specs.Clear.{clears_at, clears_by, clears_wire, hears_mac_withdraw, passes_on, tells_at, tells_by, withdrawing_at}
use Rattle.edge_model.specs.declared.effect.Effect.TheVariants as effect
use Rattle.edge_model.specs.declared.end_place.EndPlace.{EndPlace}
use Rattle.edge_model.specs.EndPlaces.{end_named, end_places}
use Rattle.edge_model.specs.Ends.{wire_end}
use Rattle.edge_model.specs.Frame.{copies}
use Rattle.edge_model.specs.Hear.{acts, acts_on, advice_of, advises, hears_few, hears_front, hears_message, hears_messages, hears_one, hears_pdu, hears_within, holds, was_up}
use Rattle.edge_model.specs.Mend.{passed_wish, advertises_under, advertises_wish, advertising, and_says, cause_number, each_end, forgets_down, forgets_downs, forgetting_wire, is_new_choice, is_up_with, mends, mends_again, mends_choice, mends_end, mends_few, mends_local, mends_once, mends_status, mends_status_of, port_of_wire, telling_status, tells_down, tells_downs, tells_over, terminal_wish, then_changes, wish, wish_of, withdrawing, withdraws_unless, offer_stands, withdraws}
use Rattle.edge_model.specs.Put.{Spoken, having_spoken, message_octets_of, octets_of, put_octets, put_replies, put_reply, put_reply_to, puts_on, with_spoken, stays}
use Rattle.edge_model.specs.Role.{down_at, status_to_tell}
use Rattle.edge_model.specs.Session.{clears_ends, comes_of, ends, had_put, had_said, happens, happens_to, happens_with_ends, is_same_phase, says, says_to, tells_change, went_on, with_session, losing_ends}
use Rattle.edge_model.specs.Signal.{end_of_fec, hears_status, hears_withdraw, maps_to, releases_label, with_end_changed, with_named, with_released, takes_content}
use Rattle.edge_model.specs.Spokes.{choosing}
use Rattle.edge_model.specs.State.{EdgeState, Peering, end_at, has_end, is_there, put_at, with_addresses, with_chosen, with_end, with_ends_beside, with_next_label, with_peering, with_told_down, with_kept}
use Rattle.edge_model.specs.Withdraw.{tells_piece, tells_piece_by, tells_pieces}
use Rattle.edge_model.specs.Work.{Work, changes, gives, next_answer, puts}
use Rattle.edge_model.specs.Across.{end_beyond}
use Rattle.pw_signalling.specs.declared.binding.Binding.{Binding}
use Rattle.edge_model.specs.Labels.{label_to_give}

-- ---- what is kept for a peer becomes something else

put_got : {X : Type 0} (map : ℕ → X) (place : ℕ) (value : X) → put_at map place value place ≡ value
put_got map place value = rw (eq-eqb place place refl) refl

pub is_set : (peer : EdgeId) (kept : Option Peering) (work : Work) → (changes (with_peering peer kept) work).edge.peering peer.0 ≡ kept
unfolding changes with_peering
is_set peer kept work = put_got work.edge.peering peer.0 kept

-- the same work over another map of what is kept
abbrev over : Work → (ℕ → Option Peering) → Work
over work peering = record work { edge = record (work.edge) { peering = peering } }

-- ---- other octets are held

-- what is held of each peer becomes something else
abbrev pub Holding : Type 0
Holding = ℕ → List ℕ → List ℕ

abbrev pub with_held : Holding → ℕ → Peering → Peering
with_held other k kept = record kept { held = other k kept.held }

abbrev pub reheld : Holding → EdgeState → EdgeState
reheld other edge = record edge { peering = λ k. option_map (with_held other k) (edge.peering k) }

abbrev pub rehold : Holding → Work → Work
rehold other work = record work { edge = reheld other work.edge }

abbrev pub rehold_spoken : Holding → Spoken → Spoken
rehold_spoken other put = record { work = rehold other put.work; failed = put.failed }

-- another state of what is kept
rehold_set : (other : Holding) (peer : EdgeId) (kept : Option Peering) (work : Work)
    → changes (with_peering peer (option_map (with_held other peer.0) kept)) (rehold other work) ≡ rehold other (changes (with_peering peer kept) work)
unfolding changes with_peering
rehold_set other peer kept work = ap (over work) (λ i k. each k i) where
  each : (k : ℕ) → cond (nat_eq k peer.0) (option_map (with_held other peer.0) kept) (option_map (with_held other k) (work.edge.peering k))
      ≡ option_map (with_held other k) (cond (nat_eq k peer.0) kept (work.edge.peering k))
  each k = elim (cases_Bool (nat_eq k peer.0)) [
    | inl here ↦ rw here (ap (λ (n : ℕ). option_map (with_held other n) kept) (sym (eqb-true k peer.0 here)))
    | inr away ↦ rw away refl
  ]

-- whether something stands tells nothing of what is held
there_held : (other : Holding) (k : ℕ) (kept : Option Peering) → is_there (option_map (with_held other k) kept) ≡ is_there kept
there_held other k None = refl
there_held other k (Some kept) = refl

put_octets_held : (other : Holding) (peer : EdgeId) (bytes : List ℕ) (taken : Bool) (work : Work) → put_octets peer bytes taken (rehold other work)
    ≡ rehold_spoken other (put_octets peer bytes taken work)
unfolding gives puts changes with_spoken
put_octets_held other peer bytes false work = refl
put_octets_held other peer bytes true work =
    let called : Work = puts peer bytes true work in
    ap (λ (w : Work). record { work = gives (effect.Said peer bytes) w; failed = false })
    (ap (λ (kept : Option Peering). changes (with_peering peer kept) (rehold other called)) (same (called.edge.peering peer.0))
    ∙ rehold_set other peer (option_map having_spoken (called.edge.peering peer.0)) called)
  where
    same : (kept : Option Peering) → option_map having_spoken (option_map (with_held other peer.0) kept) ≡ option_map (with_held other peer.0) (option_map having_spoken kept)
    same None = refl
    same (Some kept) = refl

put_reply_held : (told : Answers) (other : Holding) (peer : EdgeId) (reply : Reply) (work : Work) → put_reply told peer reply (rehold other work) ≡ rehold_spoken other (put_reply told peer reply work)
put_reply_held told other peer reply work = to (work.edge.peering peer.0) where
  to : (kept : Option Peering) → put_reply_to told peer reply (option_map (with_held other peer.0) kept) (rehold other work) ≡ rehold_spoken other (put_reply_to told peer reply kept work)
  to None = refl
  to (Some kept) = put_octets_held other peer (octets_of kept reply) (next_answer told work) work

put_replies_held : (told : Answers) (other : Holding) (peer : EdgeId) (replies : List Reply) (work : Work) → put_replies told peer replies (rehold other work)
    ≡ rehold_spoken other (put_replies told peer replies work)
put_replies_held told other peer [] work = refl
put_replies_held told other peer (reply ∷ replies) work =
    let put : Spoken = put_reply told peer reply work in
    ap (λ (s : Spoken). puts_on (put_replies told peer replies) s.failed s.work) (put_reply_held told other peer reply work)
    ∙ on put.failed put.work (put_replies_held told other peer replies put.work)
  where
    on : (failed : Bool) (next : Work) → put_replies told peer replies (rehold other next) ≡ rehold_spoken other (put_replies told peer replies next)
        → puts_on (put_replies told peer replies) failed (rehold other next) ≡ rehold_spoken other (puts_on (put_replies told peer replies) failed next)
    on true next rest = refl
    on false next rest = rest

-- ---- a session

ends_held : (other : Holding) (peer : EdgeId) (why : Reason) (work : Work) → ends peer why (rehold other work) ≡ rehold other (ends peer why work)
unfolding changes gives
ends_held other peer why work = ap (λ (w : Work). ends_of w) (rehold_set other peer None work)
  where
    ends_of : Work → Work
    ends_of w = gives (effect.Closed peer) (gives (effect.Session peer (name.Ended why)) w)

tells_held : (other : Holding) (peer : EdgeId) (old new : Phase) (work : Work) → tells_change peer old new (rehold other work) ≡ rehold other (tells_change peer old new work)
unfolding gives
tells_held other peer old new work = by (is_same_phase old new) where
  by : (same : Bool) → cond same (rehold other work) (gives (effect.Session peer (phase_name new)) (rehold other work))
      ≡ rehold other (cond same work (gives (effect.Session peer (phase_name new)) work))
  by true = refl
  by false = refl

went_on_held : (other : Holding) (peer : EdgeId) (old new : Phase) (failed : Bool) (work : Work)
    → went_on peer old new (record { work = rehold other work; failed = failed }) ≡ rehold other (went_on peer old new (record { work = work; failed = failed }))
went_on_held other peer old new true work = ends_held other peer reason.LinkFault work
went_on_held other peer old new false work = tells_held other peer old new work

comes_of_held : (told : Answers) (other : Holding) (peer : EdgeId) (kept : Peering) (outcome : Outcome) (work : Work)
    → comes_of told peer (with_held other peer.0 kept) outcome (rehold other work) ≡ rehold other (comes_of told peer kept outcome work)
comes_of_held told other peer kept Stay work = refl
comes_of_held told other peer kept (Goes next replies) work =
    let gone : Work = changes (with_peering peer (Some (with_session next kept))) work in
    let put : Spoken = put_replies told peer replies gone in
    ap (λ (w : Work). went_on peer kept.session.phase next.phase (put_replies told peer replies w)) (rehold_set other peer (Some (with_session next kept)) work)
    ∙ (ap (went_on peer kept.session.phase next.phase) (put_replies_held told other peer replies gone)
    ∙ went_on_held other peer kept.session.phase next.phase put.failed put.work)
comes_of_held told other peer kept (Ends why replies) work =
    ap (λ (s : Spoken). ends peer why s.work) (put_replies_held told other peer replies work) ∙ ends_held other peer why (put_replies told peer replies work).work

pub happens_held : (told : Answers) (other : Holding) (peer : EdgeId) (event : SessionEvent) (work : Work) → happens told peer event (rehold other work) ≡ rehold other (happens told peer event work)
happens_held told other peer event work = to (work.edge.peering peer.0) where
  to : (kept : Option Peering) → happens_to told peer event (option_map (with_held other peer.0) kept) (rehold other work) ≡ rehold other (happens_to told peer event kept work)
  to None = refl
  to (Some kept) = comes_of_held told other peer kept (outcome_of kept.session event) work

clears_held : (other : Holding) (peer : EdgeId) (work : Work) → clears_ends peer (rehold other work) ≡ rehold other (clears_ends peer work)
unfolding changes with_ends_beside with_kept
clears_held other peer work =
    ap (λ (b : Bool). cond b (rehold other work) (changes (losing_ends peer) (rehold other work))) (there_held other peer.0 (work.edge.peering peer.0)) ∙ by (has_end work.edge peer)
  where
    by : (b : Bool) → cond b (rehold other work) (changes (losing_ends peer) (rehold other work)) ≡ rehold other (cond b work (changes (losing_ends peer) work))
    by true = refl
    by false = refl

pub with_ends_held : (told : Answers) (other : Holding) (peer : EdgeId) (event : SessionEvent) (work : Work) → happens_with_ends told peer event (rehold other work)
    ≡ rehold other (happens_with_ends told peer event work)
with_ends_held told other peer event work = ap (clears_ends peer) (happens_held told other peer event work) ∙ clears_held other peer (happens told peer event work)

had_put_held : (other : Holding) (peer : EdgeId) (failed : Bool) (work : Work)
    → had_put peer (record { work = rehold other work; failed = failed }) ≡ rehold other (had_put peer (record { work = work; failed = failed }))
had_put_held other peer true work = ends_held other peer reason.LinkFault work
had_put_held other peer false work = refl

had_said_held : (other : Holding) (peer : EdgeId) (put : Spoken) → had_said peer (rehold_spoken other put) ≡ rehold_spoken other (had_said peer put)
had_said_held other peer put =
    ap (λ (w : Work). record { work = w; failed = put.failed })
    (ap (clears_ends peer) (had_put_held other peer put.failed put.work) ∙ clears_held other peer (had_put peer put))

pub says_held : (told : Answers) (other : Holding) (peer : EdgeId) (message : ℕ → Message) (work : Work) → says told peer message (rehold other work)
    ≡ rehold_spoken other (says told peer message work)
says_held told other peer message work = to (work.edge.peering peer.0) where
  to : (kept : Option Peering) → says_to told peer message (option_map (with_held other peer.0) kept) (rehold other work) ≡ rehold_spoken other (says_to told peer message kept work)
  to None = refl
  to (Some kept) =
      let bytes : List ℕ = message_octets_of kept message in
      ap (had_said peer) (put_octets_held other peer bytes (next_answer told work) work) ∙ had_said_held other peer (put_octets peer bytes (next_answer told work) work)

-- ---- mending

-- what an end should tell is read of the session alone
wish_held : (plan : Plan) (other : Holding) (edge : EdgeState) (place : EndPlace) → wish plan (reheld other edge) place ≡ wish plan edge place
wish_held plan other edge place = of (wire_row plan place.wire) where
  same : (kept : Option Peering) → is_up_with (option_map (with_held other place.peer.0) kept) ≡ is_up_with kept
  same None = refl
  same (Some kept) = refl

  of : (row : Option WirePlan) → wish_of plan (reheld other edge) place row ≡ wish_of plan edge place row
  of None = refl
  of (Some row) =
      ap (λ (up : Bool).
      cond (edge.wire_on place.wire.0 && up)
      (cond place.terminal (terminal_wish plan edge place (offer_of row edge.me.0)) (passed_wish plan edge place row))
      None)
      (same (edge.peering place.peer.0))

abbrev MendsAlike : Holding → (Work → Spoken) → Type 0
MendsAlike other mend = (work : Work) → mend (rehold other work) ≡ rehold_spoken other (mend work)

advertises_held : (told : Answers) (other : Holding) (place : EndPlace) (wished : Option Told) (work : Work) → advertises_wish told place wished (rehold other work)
    ≡ rehold_spoken other (advertises_wish told place wished work)
unfolding changes with_end with_next_label with_kept
advertises_held told other place None work = refl
advertises_held told other place (Some content) work = by (label_to_give work.edge) where
  by : (r : Option ℕ) → advertises_under told place content r (rehold other work) ≡ rehold_spoken other (advertises_under told place content r work)
  by None = refl
  by (Some label) = says_held told other place.peer (mapping place.pw_id label content) (changes (advertising place label content) work)

withdraws_held : (told : Answers) (other : Holding) (place : EndPlace) (label : ℕ) (content : Told) (wished : Option Told) (work : Work)
    → withdraws_unless told place label content wished (rehold other work) ≡ rehold_spoken other (withdraws_unless told place label content wished work)
unfolding changes with_end with_kept
withdraws_held told other place label content wished work = by (offer_stands place content wished) where
  by : (b : Bool) → cond b (stays (rehold other work)) (withdraws told place label content (rehold other work)) ≡ rehold_spoken other (cond b (stays work) (withdraws told place label content work))
  by true = refl
  by false = says_held told other place.peer (withdrawal place.pw_id label content) (changes (withdrawing place) work)

mends_end_held : (plan : Plan) (told : Answers) (other : Holding) (place : EndPlace) → MendsAlike other (mends_end plan told place)
mends_end_held plan told other place work = of (end_at work.edge place).local where
  of : (local : LocalPart) → mends_local plan told place local (rehold other work) ≡ rehold_spoken other (mends_local plan told place local work)
  of (Idle true) = refl
  of (Idle false) = ap (λ (wished : Option Told). advertises_wish told place wished (rehold other work)) (wish_held plan other work.edge place)
      ∙ advertises_held told other place (wish plan work.edge place) work
  of (Advertised label content) =
      ap (λ (wished : Option Told). withdraws_unless told place label content wished (rehold other work)) (wish_held plan other work.edge place)
      ∙ withdraws_held told other place label content (wish plan work.edge place) work
  of (Withdrawing label) = refl

mends_status_held : (plan : Plan) (told : Answers) (other : Holding) (place : EndPlace) → MendsAlike other (mends_status plan told place)
unfolding changes with_end with_kept
mends_status_held plan told other place work = of (end_at work.edge place).local where
  over_last : (content : Told) (status : PwStatus) (last : Option PwStatus) → tells_over told place content status last (rehold other work)
      ≡ rehold_spoken other (tells_over told place content status last work)
  over_last content status None = refl
  over_last content status (Some last) = by (nat_eq last.0 status.0) where
    telling_it : Work → Work
    telling_it w = changes (telling_status place status) w

    by : (b : Bool) → cond b (stays (rehold other work)) (says told place.peer (status_notification place.pw_id status content) (telling_it (rehold other work)))
        ≡ rehold_spoken other (cond b (stays work) (says told place.peer (status_notification place.pw_id status content) (telling_it work)))
    by true = refl
    by false = says_held told other place.peer (status_notification place.pw_id status content) (telling_it work)

  of : (local : LocalPart) → mends_status_of plan told place local (rehold other work) ≡ rehold_spoken other (mends_status_of plan told place local work)
  of (Idle declined) = refl
  of (Advertised label content) = over_last content (status_to_tell plan work.edge place) content.status
  of (Withdrawing label) = refl

tells_piece_held : (told : Answers) (other : Holding) (place : EndPlace) (addresses : List Mac) → MendsAlike other (tells_piece told place addresses)
tells_piece_held told other place addresses work = of (end_at work.edge place).local where
  of : (local : LocalPart) → tells_piece_by told place addresses local (rehold other work) ≡ rehold_spoken other (tells_piece_by told place addresses local work)
  of (Idle declined) = refl
  of (Advertised label content) = says_held told other place.peer (mac_withdrawal place.pw_id addresses content) work
  of (Withdrawing label) = refl

mends_choice_held : (plan : Plan) (told : Answers) (other : Holding) (before : ℕ → Option WireId) (place : EndPlace) → MendsAlike other (mends_choice plan told before place)
mends_choice_held plan told other before place work = by (is_new_choice before work.edge.chosen place.wire (wire_row plan place.wire)) where
  by : (b : Bool) → cond b (tells_piece told place [] (rehold other work)) (stays (rehold other work)) ≡ rehold_spoken other (cond b (tells_piece told place [] work) (stays work))
  by true = tells_piece_held told other place [] work
  by false = refl

each_end_held : (other : Holding) (mend : EndPlace → Work → Spoken) → ((place : EndPlace) → MendsAlike other (mend place)) → (places : List EndPlace) (m : Spoken)
    → each_end mend places (rehold_spoken other m) ≡ rehold_spoken other (each_end mend places m)
each_end_held other mend alike [] m = refl
each_end_held other mend alike (place ∷ places) m =
    ap (λ (s : Spoken). each_end mend places (record { work = s.work; failed = m.failed || s.failed })) (alike place m.work)
    ∙ each_end_held other mend alike places (and_says m (mend place))

tells_downs_held : (plan : Plan) (other : Holding) (places : List EndPlace) (work : Work) → tells_downs plan places (rehold other work) ≡ rehold other (tells_downs plan places work)
unfolding changes gives with_told_down
tells_downs_held plan other [] work = refl
tells_downs_held plan other (place ∷ places) work =
    ap (tells_downs plan places) (one place.terminal) ∙ tells_downs_held plan other places (cond place.terminal (tells_down place (down_at plan work.edge place) work) work)
  where
    tell : (down : Option Down) → tells_down place down (rehold other work) ≡ rehold other (tells_down place down work)
    tell down = by (nat_eq (cause_number (work.edge.told_down place.wire.0)) (cause_number down)) where
      by : (b : Bool) → cond b (rehold other work) (gives (effect.Wire place.wire down) (changes (with_told_down place.wire down) (rehold other work)))
          ≡ rehold other (cond b work (gives (effect.Wire place.wire down) (changes (with_told_down place.wire down) work)))
      by true = refl
      by false = refl

    one : (b : Bool) → cond b (tells_down place (down_at plan work.edge place) (rehold other work)) (rehold other work)
        ≡ rehold other (cond b (tells_down place (down_at plan work.edge place) work) work)
    one true = tell (down_at plan work.edge place)
    one false = refl

-- a change of the edge that what is held does not matter to
changes_held : (other : Holding) (change : EdgeState → EdgeState) (work : Work) → change (reheld other work.edge) ≡ reheld other (change work.edge) → changes change (rehold other work)
    ≡ rehold other (changes change work)
unfolding changes
changes_held other change work same = ap (λ (edge : EdgeState). record work { edge = edge }) same

forgetting_held : (plan : Plan) (other : Holding) (wire : WireId) (row : Option WirePlan) (edge : EdgeState) → forgetting_wire plan wire row (reheld other edge)
    ≡ reheld other (forgetting_wire plan wire row edge)
unfolding with_addresses
forgetting_held plan other wire None edge = refl
forgetting_held plan other wire (Some row) edge = refl

forgets_downs_held : (plan : Plan) (other : Holding) (places : List EndPlace) (work : Work) → forgets_downs plan places (rehold other work) ≡ rehold other (forgets_downs plan places work)
forgets_downs_held plan other [] work = refl
forgets_downs_held plan other (place ∷ places) work =
    ap (forgets_downs plan places) (one place.terminal) ∙ forgets_downs_held plan other places (cond place.terminal (forgets_down plan place (down_at plan work.edge place) work) work)
  where
    forget : (down : Option Down) → forgets_down plan place down (rehold other work) ≡ rehold other (forgets_down plan place down work)
    forget None = refl
    forget (Some why) = changes_held other (forgetting_wire plan place.wire (wire_row plan place.wire)) work (forgetting_held plan other place.wire (wire_row plan place.wire) work.edge)

    one : (b : Bool) → cond b (forgets_down plan place (down_at plan work.edge place) (rehold other work)) (rehold other work)
        ≡ rehold other (cond b (forgets_down plan place (down_at plan work.edge place) work) work)
    one true = forget (down_at plan work.edge place)
    one false = refl

choosing_held : (plan : Plan) (other : Holding) (edge : EdgeState) → choosing plan (reheld other edge) ≡ reheld other (choosing plan edge)
unfolding with_chosen
choosing_held plan other edge = refl

mends_once_held : (plan : Plan) (told : Answers) (other : Holding) → MendsAlike other (mends_once plan told)
mends_once_held plan told other work =
    let places : List EndPlace = end_places plan work.edge.me in
    let first : Spoken = each_end (mends_end plan told) places (stays work) in
    let chosen : Spoken = then_changes (choosing plan) first in
    let second : Spoken = each_end (mends_status plan told) places chosen in
    let moved : Spoken → Spoken = each_end (mends_choice plan told work.edge.chosen) places in
    let third : Spoken = moved second in
    ap (λ (s : Spoken). last places s)
    (ap (λ (s : Spoken). moved (each_end (mends_status plan told) places (then_changes (choosing plan) s)))
    (each_end_held other (mends_end plan told) (mends_end_held plan told other) places (stays work))
    ∙ (ap (λ (w : Work). moved (each_end (mends_status plan told) places (record { work = w; failed = first.failed })))
    (changes_held other (choosing plan) first.work (choosing_held plan other first.work.edge))
    ∙ (ap moved (each_end_held other (mends_status plan told) (mends_status_held plan told other) places chosen)
    ∙ each_end_held other (mends_choice plan told work.edge.chosen) (mends_choice_held plan told other work.edge.chosen) places second)))
    ∙ ap (λ (w : Work). record { work = w; failed = third.failed })
    (ap (tells_downs plan places) (forgets_downs_held plan other places third.work) ∙ tells_downs_held plan other places (forgets_downs plan places third.work))
  where
    last : List EndPlace → Spoken → Spoken
    last places s = record { work = tells_downs plan places (forgets_downs plan places s.work); failed = s.failed }

mends_few_held : (plan : Plan) (told : Answers) (other : Holding) (n : ℕ) (work : Work) → mends_few plan told n (rehold other work) ≡ rehold other (mends_few plan told n work)
mends_few_held plan told other zero work = refl
mends_few_held plan told other (suc n) work =
    ap (mends_again (mends_few plan told n)) (mends_once_held plan told other work)
    ∙ by (mends_once plan told work).failed (mends_once plan told work).work (mends_few_held plan told other n (mends_once plan told work).work)
  where
    by : (failed : Bool) (next : Work) → mends_few plan told n (rehold other next) ≡ rehold other (mends_few plan told n next)
        → mends_again (mends_few plan told n) (record { work = rehold other next; failed = failed }) ≡ rehold other (mends_again (mends_few plan told n) (record { work = next; failed = failed }))
    by true next rest = rest
    by false next rest = refl

pub mends_held : (plan : Plan) (told : Answers) (other : Holding) (work : Work) → mends plan told (rehold other work) ≡ rehold other (mends plan told work)
mends_held plan told other work = mends_few_held plan told other (suc (length plan.edges)) work

-- ---- messages about pseudowires

releases_held : (told : Answers) (other : Holding) (peer : EdgeId) (fec : PwFec) (label : Option ℕ) (work : Work) → releases_label told peer fec label (rehold other work)
    ≡ rehold other (releases_label told peer fec label work)
releases_held told other peer fec label work = ap (λ (s : Spoken). s.work) (says_held told other peer (release fec label) work)

maps_held : (plan : Plan) (told : Answers) (other : Holding) (peer : EdgeId) (fec : PwFec) (binding : Binding) (place : Option EndPlace) (work : Work)
    → maps_to plan told peer fec binding place (rehold other work) ≡ rehold other (maps_to plan told peer fec binding place work)
unfolding changes with_end with_kept
maps_held plan told other peer fec binding None work = releases_held told other peer fec (Some binding.label) work
maps_held plan told other peer fec binding (Some place) work = by (takes_content plan work.edge.me place binding.told) where
  takes : Work → Work
  takes w = changes (with_end_changed (bound binding) (Some place)) w

  drops_it : Work → Work
  drops_it w = changes (with_end_changed (unbound None) (Some place)) w

  by : (b : Bool) → cond b (takes (rehold other work)) (releases_label told peer fec (Some binding.label) (drops_it (rehold other work)))
      ≡ rehold other (cond b (takes work) (releases_label told peer fec (Some binding.label) (drops_it work)))
  by true = refl
  by false = releases_held told other peer fec (Some binding.label) (drops_it work)

changed_held : (other : Holding) (change : EndState → EndState) (place : Option EndPlace) (edge : EdgeState) → with_end_changed change place (reheld other edge)
    ≡ reheld other (with_end_changed change place edge)
unfolding with_end with_kept
changed_held other change None edge = refl
changed_held other change (Some place) edge = refl

released_held : (other : Holding) (label : Option ℕ) (place : Option EndPlace) (edge : EdgeState) → with_released label place (reheld other edge) ≡ reheld other (with_released label place edge)
unfolding with_end with_kept
released_held other label None edge = refl
released_held other label (Some place) edge = refl

named_held : (plan : Plan) (other : Holding) (peer : EdgeId) (fec : PwFec) (one all : EndState → EndState) (pw_id : Option ℕ) (edge : EdgeState)
    → with_named plan peer fec one all pw_id (reheld other edge) ≡ reheld other (with_named plan peer fec one all pw_id edge)
unfolding with_ends_beside with_kept
named_held plan other peer fec one all None edge = refl
named_held plan other peer fec one all (Some pw_id) edge = changed_held other one (end_named plan edge.me peer pw_id) edge

withdraw_held : (plan : Plan) (told : Answers) (other : Holding) (peer : EdgeId) (fec : PwFec) (label : Option ℕ) (work : Work)
    → hears_withdraw plan told peer fec label (rehold other work) ≡ rehold other (hears_withdraw plan told peer fec label work)
withdraw_held plan told other peer fec label work =
    let change : EdgeState → EdgeState = with_named plan peer fec (unbound label) (group_unbound fec.group) fec.pw_id in
    ap (releases_label told peer fec label) (changes_held other change work (named_held plan other peer fec (unbound label) (group_unbound fec.group) fec.pw_id work.edge))
    ∙ releases_held told other peer fec label (changes change work)

status_held : (plan : Plan) (other : Holding) (peer : EdgeId) (code : StatusCode) (status : Option PwStatus) (fec : Option PwFec) (work : Work)
    → hears_status plan peer code status fec (rehold other work) ≡ rehold other (hears_status plan peer code status fec work)
status_held plan other peer code None fec work = refl
status_held plan other peer code (Some status) None work = refl
status_held plan other peer code (Some status) (Some fec) work = by (nat_eq code.code pw_status_code) where
  change : EdgeState → EdgeState
  change = with_named plan peer fec (stated status) (group_stated fec.group status) fec.pw_id

  by : (b : Bool) → cond b (changes change (rehold other work)) (rehold other work) ≡ rehold other (cond b (changes change work) work)
  by true = changes_held other change work (named_held plan other peer fec (stated status) (group_stated fec.group status) fec.pw_id work.edge)
  by false = refl

-- ---- a MAC withdraw

tells_pieces_held : (told : Answers) (other : Holding) (place : EndPlace) (pieces : List (List Mac)) (work : Work) → tells_pieces told place pieces (rehold other work)
    ≡ rehold other (tells_pieces told place pieces work)
tells_pieces_held told other place [] work = refl
tells_pieces_held told other place (piece ∷ pieces) work =
    ap (λ (s : Spoken). tells_pieces told place pieces s.work) (tells_piece_held told other place piece work) ∙ tells_pieces_held told other place pieces (tells_piece told place piece work).work

tells_by_held : (told : Answers) (other : Holding) (addresses : List Mac) (place : Option EndPlace) (work : Work) → tells_by told addresses place (rehold other work)
    ≡ rehold other (tells_by told addresses place work)
tells_by_held told other addresses None work = refl
tells_by_held told other addresses (Some place) work = tells_pieces_held told other place (pieces_of addresses) work

tells_at_held : (plan : Plan) (told : Answers) (other : Holding) (addresses : List Mac) (x : Port) (work : Work) → tells_at plan told addresses x (rehold other work)
    ≡ rehold other (tells_at plan told addresses x work)
tells_at_held plan told other addresses (port.Circuit circuit) work = refl
tells_at_held plan told other addresses (port.Mesh wire) work = tells_by_held told other addresses (wire_end plan work.edge.me wire) work
tells_at_held plan told other addresses (port.Spoke wire) work = tells_by_held told other addresses (wire_end plan work.edge.me wire) work

tells_ports_held : (plan : Plan) (told : Answers) (other : Holding) (passed : ℕ → Bool) (addresses : List Mac) (p : ℕ) (ports : List Port) (work : Work)
    → copies passed (tells_at plan told addresses) p ports (rehold other work) ≡ rehold other (copies passed (tells_at plan told addresses) p ports work)
tells_ports_held plan told other passed addresses p [] work = refl
tells_ports_held plan told other passed addresses p (x ∷ ports) work =
    ap (copies passed (tells_at plan told addresses) (p + 1) ports) (one (passed p))
    ∙ tells_ports_held plan told other passed addresses (p + 1) ports (cond (passed p) (tells_at plan told addresses x work) work)
  where
    one : (b : Bool) → cond b (tells_at plan told addresses x (rehold other work)) (rehold other work) ≡ rehold other (cond b (tells_at plan told addresses x work) work)
    one true = tells_at_held plan told other addresses x work
    one false = refl

passes_on_held : (plan : Plan) (told : Answers) (other : Holding) (addresses : List Mac) (service : ServiceId) (from : ℕ) (role : Option Role) (work : Work)
    → passes_on plan told addresses service from role (rehold other work) ≡ rehold other (passes_on plan told addresses service from role work)
passes_on_held plan told other addresses service from None work = refl
passes_on_held plan told other addresses service from (Some role) work =
    let ports : List Port = ports_of plan service work.edge.me in
    tells_ports_held plan told other (is_passed_to role ports from) addresses 0 ports work

withdrawing_held : (other : Holding) (service : ServiceId) (addresses : List Mac) (from : ℕ) (edge : EdgeState) → withdrawing_at service addresses from (reheld other edge)
    ≡ reheld other (withdrawing_at service addresses from edge)
unfolding with_addresses
withdrawing_held other service addresses from edge = refl

clears_at_held : (plan : Plan) (told : Answers) (other : Holding) (addresses : List Mac) (service : ServiceId) (from : Option ℕ) (work : Work)
    → clears_at plan told addresses service from (rehold other work) ≡ rehold other (clears_at plan told addresses service from work)
clears_at_held plan told other addresses service None work = refl
clears_at_held plan told other addresses service (Some from) work =
    let change : EdgeState → EdgeState = withdrawing_at service addresses from in
    let role : Option Role = roles.role_of plan service work.edge.me in
    ap (passes_on plan told addresses service from role) (changes_held other change work (withdrawing_held other service addresses from work.edge))
    ∙ passes_on_held plan told other addresses service from role (changes change work)

clears_wire_held : (plan : Plan) (told : Answers) (other : Holding) (addresses : List Mac) (place : EndPlace) (row : Option WirePlan) (work : Work)
    → clears_wire plan told addresses place row (rehold other work) ≡ rehold other (clears_wire plan told addresses place row work)
clears_wire_held plan told other addresses place None work = refl
clears_wire_held plan told other addresses place (Some row) work = clears_at_held plan told other addresses row.service (port_of_wire plan work.edge place.wire row) work

clears_by_held : (plan : Plan) (told : Answers) (other : Holding) (addresses : List Mac) (place : Option EndPlace) (work : Work)
    → clears_by plan told addresses place (rehold other work) ≡ rehold other (clears_by plan told addresses place work)
clears_by_held plan told other addresses None work = refl
clears_by_held plan told other addresses (Some place) work = by place.terminal where
  by : (b : Bool) → cond b (clears_wire plan told addresses place (wire_row plan place.wire) (rehold other work)) (tells_by told addresses (end_beyond plan work.edge.me place) (rehold other work))
      ≡ rehold other (cond b (clears_wire plan told addresses place (wire_row plan place.wire) work) (tells_by told addresses (end_beyond plan work.edge.me place) work))
  by true = clears_wire_held plan told other addresses place (wire_row plan place.wire) work
  by false = tells_by_held told other addresses (end_beyond plan work.edge.me place) work

mac_withdraw_held : (plan : Plan) (told : Answers) (other : Holding) (peer : EdgeId) (fec : Option PwFec) (addresses : Option (List Mac)) (work : Work)
    → hears_mac_withdraw plan told peer fec addresses (rehold other work) ≡ rehold other (hears_mac_withdraw plan told peer fec addresses work)
mac_withdraw_held plan told other peer None addresses work = refl
mac_withdraw_held plan told other peer (Some fec) None work = refl
mac_withdraw_held plan told other peer (Some fec) (Some addresses) work = clears_by_held plan told other addresses (end_of_fec plan work.edge peer fec) work

-- ---- messages

advises_held : (told : Answers) (other : Holding) (peer : EdgeId) (advice : Option Reply) (work : Work) → advises told peer advice (rehold other work) ≡ rehold other (advises told peer advice work)
advises_held told other peer None work = refl
advises_held told other peer (Some reply) work =
    ap (λ (s : Spoken). (had_said peer s).work) (put_reply_held told other peer reply work) ∙ ap (λ (s : Spoken). s.work) (had_said_held other peer (put_reply told peer reply work))

acts_on_held : (plan : Plan) (told : Answers) (other : Holding) (peer : EdgeId) (message : Message) (work : Work) → acts_on plan told peer message (rehold other work)
    ≡ rehold other (acts_on plan told peer message work)
acts_on_held plan told other peer (LabelMapping id fec label status points) work = maps_held plan told other peer fec (binding_in fec label status points) (end_of_fec plan work.edge peer fec) work
acts_on_held plan told other peer (LabelWithdraw id fec label) work = withdraw_held plan told other peer fec label work
acts_on_held plan told other peer (LabelRelease id fec label) work =
    changes_held other (λ edge. with_released label (end_of_fec plan edge peer fec) edge) work (released_held other label (end_of_fec plan work.edge peer fec) work.edge)
acts_on_held plan told other peer (Notification id code status fec) work = status_held plan other peer code status fec work
acts_on_held plan told other peer (AddressWithdraw id addresses fec macs) work = mac_withdraw_held plan told other peer fec macs work
acts_on_held plan told other peer message work = advises_held told other peer (advice_of message) work

acts_held : (plan : Plan) (told : Answers) (other : Holding) (peer : EdgeId) (message : Message) (up : Bool) (work : Work) → acts plan told peer message up (rehold other work)
    ≡ rehold other (acts plan told peer message up work)
acts_held plan told other peer message false work = refl
acts_held plan told other peer message true work =
    ap (λ (b : Bool). cond b (acts_on plan told peer message (rehold other work)) (rehold other work)) (there_held other peer.0 (work.edge.peering peer.0)) ∙ by (has_end work.edge peer)
  where
    by : (b : Bool) → cond b (acts_on plan told peer message (rehold other work)) (rehold other work) ≡ rehold other (cond b (acts_on plan told peer message work) work)
    by true = acts_on_held plan told other peer message work
    by false = refl

hears_one_held : (plan : Plan) (told : Answers) (other : Holding) (peer : EdgeId) (message : Message) (work : Work) → hears_one plan told peer message (rehold other work)
    ≡ rehold other (hears_one plan told peer message work)
hears_one_held plan told other peer message work =
    let up : Bool = was_up (work.edge.peering peer.0) in
    ap (λ (b : Bool). acts plan told peer message b (happens_with_ends told peer (Received message) (rehold other work))) (same (work.edge.peering peer.0))
    ∙ (ap (acts plan told peer message up) (with_ends_held told other peer (Received message) work)
    ∙ acts_held plan told other peer message up (happens_with_ends told peer (Received message) work))
  where
    same : (kept : Option Peering) → was_up (option_map (with_held other peer.0) kept) ≡ was_up kept
    same None = refl
    same (Some kept) = refl

hears_message_held : (plan : Plan) (told : Answers) (other : Holding) (peer : EdgeId) (message : Message) (work : Work)
    → hears_message plan told peer message (rehold other work) ≡ rehold other (hears_message plan told peer message work)
hears_message_held plan told other peer message work =
    ap (λ (b : Bool). cond b (mends plan told (hears_one plan told peer message (rehold other work))) (rehold other work)) (there_held other peer.0 (work.edge.peering peer.0))
    ∙ by (has_end work.edge peer)
  where
    by : (b : Bool) → cond b (mends plan told (hears_one plan told peer message (rehold other work))) (rehold other work)
        ≡ rehold other (cond b (mends plan told (hears_one plan told peer message work)) work)
    by true = ap (mends plan told) (hears_one_held plan told other peer message work) ∙ mends_held plan told other (hears_one plan told peer message work)
    by false = refl

hears_messages_held : (plan : Plan) (told : Answers) (other : Holding) (peer : EdgeId) (messages : List Message) (work : Work)
    → hears_messages plan told peer messages (rehold other work) ≡ rehold other (hears_messages plan told peer messages work)
hears_messages_held plan told other peer [] work = refl
hears_messages_held plan told other peer (message ∷ messages) work =
    ap (hears_messages plan told peer messages) (hears_message_held plan told other peer message work) ∙ hears_messages_held plan told other peer messages (hears_message plan told peer message work)

pub hears_pdu_held : (plan : Plan) (told : Answers) (other : Holding) (peer : EdgeId) (pdu : Pdu) (work : Work) → hears_pdu plan told peer pdu (rehold other work)
    ≡ rehold other (hears_pdu plan told peer pdu work)
hears_pdu_held plan told other peer pdu work =
    ap (hears_messages plan told peer pdu.messages) (with_ends_held told other peer (Heard pdu.id) work)
    ∙ hears_messages_held plan told other peer pdu.messages (happens_with_ends told peer (Heard pdu.id) work)

-- ---- octets that are no PDU end the session

refused_ends : (state : Phase) (fault : DecodeFault) (active : Bool) (s : SessionState) → table state (Refused fault) active s ≡ Ends reason.Decode (about_none (data_of fault) ∷ [])
refused_ends phase.Initialized fault true s = refl
refused_ends phase.Initialized fault false s = refl
refused_ends phase.OpenSent fault active s = refl
refused_ends phase.OpenRec fault active s = refl
refused_ends phase.Operational fault active s = refl

pub ended_gone : (peer : EdgeId) (why : Reason) (work : Work) → (ends peer why work).edge.peering peer.0 ≡ None
unfolding gives
ended_gone peer why work = is_set peer None work

-- losing ends leaves what is kept for neighbours
pub clears_keep : (peer : EdgeId) (work : Work) → (clears_ends peer work).edge.peering ≡ work.edge.peering
unfolding changes with_ends_beside with_kept
clears_keep peer work = by (has_end work.edge peer) where
  by : (b : Bool) → (cond b work (changes (losing_ends peer) work)).edge.peering ≡ work.edge.peering
  by true = refl
  by false = refl

pub refused_gone : (told : Answers) (peer : EdgeId) (fault : DecodeFault) (work : Work) → (happens_with_ends told peer (Refused fault) work).edge.peering peer.0 ≡ None
refused_gone told peer fault work = ap (λ (peering : ℕ → Option Peering). peering peer.0) (clears_keep peer (happens told peer (Refused fault) work)) ∙ to (work.edge.peering peer.0) refl where
  to : (kept : Option Peering) → work.edge.peering peer.0 ≡ kept → (happens_to told peer (Refused fault) kept work).edge.peering peer.0 ≡ None
  to None is = is
  to (Some kept) is =
      let replies : List Reply = about_none (data_of fault) ∷ [] in
      ap (λ (outcome : Outcome). (comes_of told peer kept outcome work).edge.peering peer.0) (refused_ends kept.session.phase fault (is_active kept.session.peers) kept.session)
      ∙ ended_gone peer reason.Decode (put_replies told peer replies work).work

-- ---- octets

-- these octets are held of one peer
abbrev pub held_of : EdgeId → List ℕ → Holding
held_of peer octets k held = cond (nat_eq k peer.0) octets held

held_elsewhere : (peer : EdgeId) (octets : List ℕ) (k : ℕ) (kept : Option Peering) → nat_eq k peer.0 ≡ false → option_map (with_held (held_of peer octets) k) kept ≡ kept
held_elsewhere peer octets k None away = refl
held_elsewhere peer octets k (Some kept) away = rw away refl

-- what is kept for the peer becomes this, whatever was held of it
set_held : (peer : EdgeId) (octets : List ℕ) (kept : Option Peering) (work : Work) → changes (with_peering peer kept) (rehold (held_of peer octets) work) ≡ changes (with_peering peer kept) work
unfolding changes with_peering
set_held peer octets kept work = ap (over work) (λ i k. each k i) where
  each : (k : ℕ) → cond (nat_eq k peer.0) kept (option_map (with_held (held_of peer octets) k) (work.edge.peering k)) ≡ cond (nat_eq k peer.0) kept (work.edge.peering k)
  each k = elim (cases_Bool (nat_eq k peer.0)) [
    | inl here ↦ rw here refl
    | inr away ↦ rw away (held_elsewhere peer octets k (work.edge.peering k) away)
  ]

-- where a session stands its peer's octets are held, and nothing else changes
pub held_is : (peer : EdgeId) (octets : List ℕ) (kept : Peering) (work : Work) → work.edge.peering peer.0 ≡ Some kept
    → rehold (held_of peer octets) work ≡ changes (with_peering peer (Some (record kept { held = octets }))) work
unfolding changes with_peering
held_is peer octets kept work is = ap (over work) (λ i k. each k i) where
  each : (k : ℕ) → option_map (with_held (held_of peer octets) k) (work.edge.peering k) ≡ cond (nat_eq k peer.0) (Some (record kept { held = octets })) (work.edge.peering k)
  each k = elim (cases_Bool (nat_eq k peer.0)) [
    | inl here ↦
        ap (option_map (with_held (held_of peer octets) k)) (ap work.edge.peering (eqb-true k peer.0 here) ∙ is) ∙ rw here refl
    | inr away ↦ held_elsewhere peer octets k (work.edge.peering k) away ∙ rw away refl
  ]

-- nothing is held where no session stands
held_none : (peer : EdgeId) (octets : List ℕ) (work : Work) → work.edge.peering peer.0 ≡ None → rehold (held_of peer octets) work ≡ work
held_none peer octets work none = ap (over work) (λ i k. each k i) where
  each : (k : ℕ) → option_map (with_held (held_of peer octets) k) (work.edge.peering k) ≡ work.edge.peering k
  each k = elim (cases_Bool (nat_eq k peer.0)) [
    | inl here ↦
        (let gone : work.edge.peering k ≡ None = ap work.edge.peering (eqb-true k peer.0 here) ∙ none in
        ap (option_map (with_held (held_of peer octets) k)) gone ∙ sym gone)
    | inr away ↦ held_elsewhere peer octets k (work.edge.peering k) away
  ]

-- what is held becomes something else
holds_held : (peer : EdgeId) (octets more : List ℕ) (work : Work)
    → holds peer more ((rehold (held_of peer octets) work).edge.peering peer.0) (rehold (held_of peer octets) work) ≡ holds peer more (work.edge.peering peer.0) work
holds_held peer octets more work = to (work.edge.peering peer.0) refl where
  to : (kept : Option Peering) → work.edge.peering peer.0 ≡ kept
      → holds peer more (option_map (with_held (held_of peer octets) peer.0) kept) (rehold (held_of peer octets) work) ≡ holds peer more kept work
  to None is = held_none peer octets work is
  to (Some kept) is = set_held peer octets (Some (record kept { held = more })) work

-- what was held tells nothing of how octets are heard
pub hears_few_held : (plan : Plan) (told : Answers) (peer : EdgeId) (octets : List ℕ) (n : ℕ) (more : List ℕ) (work : Work)
    → hears_few plan told peer n more (rehold (held_of peer octets) work) ≡ hears_few plan told peer n more work
hears_few_held plan told peer octets zero more work = holds_held peer octets more work
hears_few_held plan told peer octets (suc n) more work = within (λ rest next. hears_few_held plan told peer octets n rest next) (work.edge.peering peer.0) refl where
  other : Holding
  other = held_of peer octets

  Again : Type 0
  Again = (rest : List ℕ) (next : Work) → hears_few plan told peer n rest (rehold other next) ≡ hears_few plan told peer n rest next

  front : Again → (kept : Peering) → work.edge.peering peer.0 ≡ Some kept → (stands : Front)
      → hears_front plan told peer (hears_few plan told peer n) (with_held other peer.0 kept) more stands (rehold other work)
      ≡ hears_front plan told peer (hears_few plan told peer n) kept more stands work
  front again kept is More = set_held peer octets (Some (record kept { held = more })) work
  front again kept is (Got pdu rest) = ap (hears_few plan told peer n rest) (hears_pdu_held plan told other peer pdu work) ∙ again rest (hears_pdu plan told peer pdu work)
  front again kept is (Bad fault) =
      let refused : Work = happens_with_ends told peer (Refused (refusal_of fault)) work in
      with_ends_held told other peer (Refused (refusal_of fault)) work ∙ held_none peer octets refused (refused_gone told peer (refusal_of fault) work)

  within : Again → (kept : Option Peering) → work.edge.peering peer.0 ≡ kept
      → hears_within plan told peer (hears_few plan told peer n) more (option_map (with_held other peer.0) kept) (rehold other work)
      ≡ hears_within plan told peer (hears_few plan told peer n) more kept work
  within again None is = held_none peer octets work is
  within again (Some kept) is = front again kept is (front_of kept.session.max_pdu more)
