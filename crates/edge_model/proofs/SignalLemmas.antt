-- What signalling leaves of an edge as it was, and what alone it gives out: messages put, ends advertised, withdrawn and told,
-- messages heard, and mending.
use Rattle.std.proofs.Common.{◌≡◌, ◌&&◌, ◌∙◌, ℕ, Bool, true, false, List, [], ◌∷◌, Option, Some, None, append-nil, cond, refl, sym, ap, nat_eq, not, length, slice_get}
use Rattle.net_base.specs.declared.plan.Plan.{Plan}
use Rattle.net_base.specs.declared.plan.circuit_plan.CircuitPlan.{CircuitPlan}
use Rattle.net_base.specs.declared.plan.edge_plan.EdgePlan.{EdgePlan}
use Rattle.net_base.specs.declared.plan.places.CircuitId.{CircuitId}
use Rattle.net_base.specs.declared.plan.places.EdgeId.{EdgeId}
use Rattle.net_base.specs.declared.plan.places.WireId.{WireId}
use Rattle.net_base.specs.declared.trace.down.Down.{Down}
use Rattle.net_base.specs.declared.trace.state_name.Reason.TheVariants as reason
use Rattle.net_values.specs.declared.mac.Mac.{Mac}
use Rattle.net_values.proofs.BoolLemmas.{first_holds, second_holds}
use Rattle.net_base.specs.plan.Paths.{are_joined}
use Rattle.net_base.specs.plan.Places.{wire_row}
use Rattle.ldp_grammar.specs.declared.message.Message.{Message}
use Rattle.ldp_grammar.specs.declared.pdu.Pdu.{Pdu}
use Rattle.ldp_grammar.specs.declared.status_code.StatusCode.{StatusCode}
use Rattle.pw_tlvs.specs.declared.point.Point.{Point}
use Rattle.pw_tlvs.specs.declared.pw_fec.PwFec.{PwFec}
use Rattle.pw_tlvs.specs.declared.pw_status.PwStatus.{PwStatus}
use Rattle.pw_signalling.specs.declared.told.Told.{Told}
use Rattle.pw_signalling.specs.End.{EndState, LocalPart, Idle, Advertised, Withdrawing}
use Rattle.pw_signalling.specs.Rows.{bound, group_stated, group_unbound, released, stated, telling, unbound, withdrawn}
use Rattle.session_core.specs.Table as table
use Rattle.pw_messages.specs.Content.{mac_withdrawal, mapping, release, status_notification, withdrawal}
use Rattle.pw_messages.specs.LinkAnswers.{Answers}
use Rattle.edge_model.specs.Circuit.{circuit_input, is_same, turned}
use Rattle.edge_model.specs.Connection.{connected_input, connects, connects_between, lost_input, opened_with}
use Rattle.edge_model.specs.Clear.{withdrawing_at}
use Rattle.edge_model.specs.declared.effect.Effect.{Effect}
use Rattle.edge_model.specs.declared.effect.Effect.TheVariants as effect
use Rattle.edge_model.specs.declared.end_place.EndPlace.{EndPlace}
use Rattle.edge_model.specs.EndPlaces.{end_named, ends_here, passes}
use Rattle.edge_model.specs.Frame.{is_own}
use Rattle.edge_model.specs.Hear.{acts_on, hears, hears_message, hears_messages, hears_on, hears_one, hears_pdu, octets_input}
use Rattle.edge_model.specs.Mend.{advertises_under, advertises, advertises_wish, advertising, and_says, cause_number, each_end, forgets_downs, forgetting_wire, is_new_choice, mends, mends_choice, mends_end, mends_local, mends_once, mends_status, mends_status_of, tells_down, tells_downs, tells_new_status, tells_over, telling_status, wish, withdrawing, withdraws, withdraws_unless, offer_stands}
use Rattle.edge_model.specs.Put.{Spoken, put_reply, stays}
use Rattle.edge_model.specs.Role.{down_at, status_to_tell}
use Rattle.edge_model.specs.Session.{had_said, happens_with_ends, says}
use Rattle.edge_model.specs.Signal.{end_of_fec, hears_mapping, hears_release, hears_status, hears_withdraw, with_end_changed, with_named, with_released}
use Rattle.edge_model.specs.Spokes.{choosing}
use Rattle.edge_model.specs.State.{EdgeState, Peering, end_at, has_end, is_on, with_addresses, with_bits, with_chosen, with_circuit, with_end, with_ends_beside, with_learned, with_next_label, with_peering, with_priority, with_renewed, with_ticks, with_told_down, with_wire, with_kept}
use Rattle.edge_model.specs.Tick.{counted, forgetting, tick_input, ticks_sessions}
use Rattle.edge_model.specs.Wire.{is_own_spoke, priority_input, status_input, turned_wire, wire_input}
use Rattle.edge_model.specs.Withdraw.{tells_piece, tells_piece_by}
use Rattle.edge_model.specs.Work.{Work, changes, gives, idles}
use Rattle.edge_model.proofs.BridgeLemmas.{ForgetsOnly, forgets_downs_only, forgetting_only, withdrawing_only}
use Rattle.edge_model.proofs.SessionLemmas.{GivesOnly, IsSessionWork, advice_works, any, are_all, connects_works, gives_none, gives_then, happens_with_ends_works, is_of_session, says_works}
use Rattle.edge_model.proofs.WalkLemmas.{HearSteps, MendSteps, acts_on_holds, hears_holds, hears_mapping_holds, hears_message_holds, hears_messages_holds, hears_on_holds, hears_one_holds, hears_pdu_holds, hears_status_holds, hears_withdraw_holds, mends_holds, mends_once_holds, ticks_hold}
use Rattle.edge_model.specs.Labels.{label_to_give}

-- an effect of a session, or a wire that began to forward or stopped
abbrev pub is_of_signalling : Effect → Bool
is_of_signalling (effect.Wire wire down) = true
is_of_signalling e = is_of_session any e

more_signalling : (e : Effect) → is_of_session any e ≡ true → is_of_signalling e ≡ true
more_signalling (effect.Wire wire down) own = refl
more_signalling (effect.Said peer bytes) own = refl
more_signalling (effect.Sent peer wire came bytes) own = own
more_signalling (effect.Left circuit bytes) own = own
more_signalling (effect.Dropped cause) own = own
more_signalling (effect.Session peer state) own = refl
more_signalling (effect.Pong wire sequence) own = own
more_signalling (effect.Closed peer) own = refl

all_signalling : (es : List Effect) → are_all (is_of_session any) es ≡ true → are_all is_of_signalling es ≡ true
all_signalling [] own = refl
all_signalling (e ∷ es) own =
    ap (λ (b : Bool). b && are_all is_of_signalling es) (more_signalling e (first_holds (is_of_session any e) (are_all (is_of_session any) es) own))
    ∙ all_signalling es (second_holds (is_of_session any e) (are_all (is_of_session any) es) own)

-- of the edge, all stays but its sessions, its ends, what it told of them, the spokes that it has chosen, its next label, and the
-- addresses that it forgets
pub record IsSignalled (old new : EdgeState) : Type 0 where
  pub me : new.me ≡ old.me
  pub circuits : new.circuit_on ≡ old.circuit_on
  pub ticks : new.ticks ≡ old.ticks
  pub wires : new.wire_on ≡ old.wire_on
  pub bits : new.bits ≡ old.bits
  pub priorities : new.priority ≡ old.priority

-- work of signalling, with any peers
pub record IsSignalWork (old new : Work) : Type 0 where
  pub edge : IsSignalled old.edge new.edge
  pub effects : GivesOnly is_of_signalling old.effects new.effects
  pub idle : new.idle ≡ old.idle

signalled_not : (edge : EdgeState) → IsSignalled edge edge
signalled_not edge = record { me = refl; circuits = refl; ticks = refl; wires = refl; bits = refl; priorities = refl }

signalled_then : (a b c : EdgeState) → IsSignalled a b → IsSignalled b c → IsSignalled a c
signalled_then a b c first next = record {
  me = next.me ∙ first.me;
  circuits = next.circuits ∙ first.circuits;
  ticks = next.ticks ∙ first.ticks;
  wires = next.wires ∙ first.wires;
  bits = next.bits ∙ first.bits;
  priorities = next.priorities ∙ first.priorities;
}

pub signals_not : (work : Work) → IsSignalWork work work
signals_not work = record { edge = signalled_not work.edge; effects = gives_none is_of_signalling work.effects; idle = refl }

pub signals_then : (a b c : Work) → IsSignalWork a b → IsSignalWork b c → IsSignalWork a c
signals_then a b c first next = record {
  edge = signalled_then a.edge b.edge c.edge first.edge next.edge;
  effects = gives_then is_of_signalling a.effects b.effects c.effects first.effects next.effects;
  idle = next.idle ∙ first.idle;
}

-- work of sessions is work of signalling
pub session_signals : (a b : Work) → IsSessionWork any a b → IsSignalWork a b
session_signals a b works = record {
  edge = record { me = works.edge.me; circuits = works.edge.circuits; ticks = works.edge.ticks; wires = works.edge.wires; bits = works.edge.bits; priorities = works.edge.priorities };
  effects = record { more = works.effects.more; given = works.effects.given; own = all_signalling works.effects.more works.effects.own };
  idle = works.idle;
}

changes_signals : (change : EdgeState → EdgeState) (work : Work) → IsSignalled work.edge (change work.edge) → IsSignalWork work (changes change work)
unfolding changes
changes_signals change work same = record { edge = same; effects = gives_none is_of_signalling work.effects; idle = refl }

-- ---- single steps

pub says_signals : (told : Answers) (peer : EdgeId) (message : ℕ → Message) (work : Work) → IsSignalWork work (says told peer message work).work
says_signals told peer message work = session_signals work (says told peer message work).work (says_works told any peer message work refl)

end_signals : (place : EndPlace) (end : EndState) (edge : EdgeState) → IsSignalled edge (with_end place end edge)
unfolding with_end with_kept
end_signals place end edge = record { me = refl; circuits = refl; ticks = refl; wires = refl; bits = refl; priorities = refl }

advertising_signals : (place : EndPlace) (label : ℕ) (content : Told) (edge : EdgeState) → IsSignalled edge (advertising place label content edge)
unfolding with_end with_next_label with_kept
advertising_signals place label content edge = record { me = refl; circuits = refl; ticks = refl; wires = refl; bits = refl; priorities = refl }

beside_signals : (peer : EdgeId) (change : EndState → EndState) (edge : EdgeState) → IsSignalled edge (with_ends_beside peer change edge)
unfolding with_ends_beside with_kept
beside_signals peer change edge = record { me = refl; circuits = refl; ticks = refl; wires = refl; bits = refl; priorities = refl }

changed_signals : (change : EndState → EndState) (place : Option EndPlace) (edge : EdgeState) → IsSignalled edge (with_end_changed change place edge)
changed_signals change None edge = signalled_not edge
changed_signals change (Some place) edge = end_signals place (change (end_at edge place)) edge

released_signals : (label : Option ℕ) (place : Option EndPlace) (edge : EdgeState) → IsSignalled edge (with_released label place edge)
unfolding with_end with_kept
released_signals label None edge = signalled_not edge
released_signals label (Some place) edge = record { me = refl; circuits = refl; ticks = refl; wires = refl; bits = refl; priorities = refl }

named_signals : (plan : Plan) (peer : EdgeId) (fec : PwFec) (one all : EndState → EndState) (pw_id : Option ℕ) (edge : EdgeState) → IsSignalled edge (with_named plan peer fec one all pw_id edge)
named_signals plan peer fec one all None edge = beside_signals peer all edge
named_signals plan peer fec one all (Some pw_id) edge = changed_signals one (end_named plan edge.me peer pw_id) edge

held_signals : (peer : EdgeId) (kept : Option Peering) (edge : EdgeState) → IsSignalled edge (with_peering peer kept edge)
unfolding with_peering
held_signals peer kept edge = record { me = refl; circuits = refl; ticks = refl; wires = refl; bits = refl; priorities = refl }

-- a change of the edge, and a message after it
change_says_signals : (told : Answers) (peer : EdgeId) (message : ℕ → Message) (change : EdgeState → EdgeState) (work : Work) → IsSignalled work.edge (change work.edge)
    → IsSignalWork work (says told peer message (changes change work)).work
change_says_signals told peer message change work same =
    signals_then work (changes change work) (says told peer message (changes change work)).work (changes_signals change work same) (says_signals told peer message (changes change work))

pub advertises_signals : (told : Answers) (place : EndPlace) (label : ℕ) (content : Told) (work : Work)
    → IsSignalWork work (says told place.peer (mapping place.pw_id label content) (changes (advertising place label content) work)).work
advertises_signals told place label content work =
    change_says_signals told place.peer (mapping place.pw_id label content) (advertising place label content) work (advertising_signals place label content work.edge)

pub withdraws_signals : (told : Answers) (place : EndPlace) (label : ℕ) (content : Told) (work : Work) → IsSignalWork work (withdraws told place label content work).work
withdraws_signals told place label content work =
    change_says_signals told place.peer (withdrawal place.pw_id label content) (withdrawing place) work (end_signals place (withdrawn (end_at work.edge place)) work.edge)

pub tells_new_status_signals : (told : Answers) (place : EndPlace) (content : Told) (status : PwStatus) (work : Work) → IsSignalWork work (tells_new_status told place content status work).work
tells_new_status_signals told place content status work =
    change_says_signals told place.peer (status_notification place.pw_id status content) (telling_status place status) work (end_signals place (telling status (end_at work.edge place)) work.edge)

choosing_signals : (plan : Plan) (edge : EdgeState) → IsSignalled edge (choosing plan edge)
unfolding with_chosen
choosing_signals plan edge = record { me = refl; circuits = refl; ticks = refl; wires = refl; bits = refl; priorities = refl }

pub chooses_signals : (plan : Plan) (work : Work) → IsSignalWork work (changes (choosing plan) work)
chooses_signals plan work = changes_signals (choosing plan) work (choosing_signals plan work.edge)

pub tells_wire_signals : (wire : WireId) (down : Option Down) (work : Work) → IsSignalWork work (gives (effect.Wire wire down) (changes (with_told_down wire down) work))
unfolding changes gives with_told_down
tells_wire_signals wire down work = record {
  edge = record { me = refl; circuits = refl; ticks = refl; wires = refl; bits = refl; priorities = refl };
  effects = record { more = effect.Wire wire down ∷ []; given = refl; own = refl };
  idle = refl;
}

-- ---- an end is mended

pub advertises_end_signals : (told : Answers) (place : EndPlace) (content : Told) (work : Work) → IsSignalWork work (advertises told place content work).work
advertises_end_signals told place content work = by (label_to_give work.edge) where
  by : (r : Option ℕ) → IsSignalWork work (advertises_under told place content r work).work
  by None = signals_not work
  by (Some label) = advertises_signals told place label content work

pub advertises_wish_signals : (told : Answers) (place : EndPlace) (wished : Option Told) (work : Work) → IsSignalWork work (advertises_wish told place wished work).work
advertises_wish_signals told place None work = signals_not work
advertises_wish_signals told place (Some content) work = advertises_end_signals told place content work

pub withdraws_unless_signals : (told : Answers) (place : EndPlace) (label : ℕ) (content : Told) (wished : Option Told) (work : Work)
    → IsSignalWork work (withdraws_unless told place label content wished work).work
withdraws_unless_signals told place label content wished work = by (offer_stands place content wished) where
  by : (b : Bool) → IsSignalWork work (cond b (stays work) (withdraws told place label content work)).work
  by true = signals_not work
  by false = withdraws_signals told place label content work

pub mends_local_signals : (plan : Plan) (told : Answers) (place : EndPlace) (local : LocalPart) (work : Work) → IsSignalWork work (mends_local plan told place local work).work
mends_local_signals plan told place (Idle true) work = signals_not work
mends_local_signals plan told place (Idle false) work = advertises_wish_signals told place (wish plan work.edge place) work
mends_local_signals plan told place (Advertised label content) work = withdraws_unless_signals told place label content (wish plan work.edge place) work
mends_local_signals plan told place (Withdrawing label) work = signals_not work

pub mends_end_signals : (plan : Plan) (told : Answers) (place : EndPlace) (work : Work) → IsSignalWork work (mends_end plan told place work).work
mends_end_signals plan told place work = mends_local_signals plan told place (end_at work.edge place).local work

pub tells_over_signals : (told : Answers) (place : EndPlace) (content : Told) (status : PwStatus) (last : Option PwStatus) (work : Work)
    → IsSignalWork work (tells_over told place content status last work).work
tells_over_signals told place content status None work = signals_not work
tells_over_signals told place content status (Some last) work = by (nat_eq last.0 status.0) where
  by : (b : Bool) → IsSignalWork work (cond b (stays work) (tells_new_status told place content status work)).work
  by true = signals_not work
  by false = tells_new_status_signals told place content status work

pub mends_status_signals : (plan : Plan) (told : Answers) (place : EndPlace) (work : Work) → IsSignalWork work (mends_status plan told place work).work
mends_status_signals plan told place work = by (end_at work.edge place).local where
  by : (local : LocalPart) → IsSignalWork work (mends_status_of plan told place local work).work
  by (Idle declined) = signals_not work
  by (Advertised label content) = tells_over_signals told place content (status_to_tell plan work.edge place) content.status work
  by (Withdrawing label) = signals_not work

pub tells_piece_signals : (told : Answers) (place : EndPlace) (addresses : List Mac) (work : Work) → IsSignalWork work (tells_piece told place addresses work).work
tells_piece_signals told place addresses work = by (end_at work.edge place).local where
  by : (local : LocalPart) → IsSignalWork work (tells_piece_by told place addresses local work).work
  by (Idle declined) = signals_not work
  by (Advertised label content) = says_signals told place.peer (mac_withdrawal place.pw_id addresses content) work
  by (Withdrawing label) = signals_not work

pub mends_choice_signals : (plan : Plan) (told : Answers) (before : ℕ → Option WireId) (place : EndPlace) (work : Work) → IsSignalWork work (mends_choice plan told before place work).work
mends_choice_signals plan told before place work = by (is_new_choice before work.edge.chosen place.wire (wire_row plan place.wire)) where
  by : (b : Bool) → IsSignalWork work (cond b (tells_piece told place [] work) (stays work)).work
  by true = tells_piece_signals told place [] work
  by false = signals_not work

-- each end in turn
pub each_end_signals : (mend : EndPlace → Work → Spoken) → ((place : EndPlace) (work : Work) → IsSignalWork work (mend place work).work) → (places : List EndPlace) (m : Spoken)
    → IsSignalWork m.work (each_end mend places m).work
each_end_signals mend one [] m = signals_not m.work
each_end_signals mend one (place ∷ places) m =
    signals_then m.work (mend place m.work).work (each_end mend (place ∷ places) m).work (one place m.work) (each_end_signals mend one places (and_says m (mend place)))

pub tells_down_signals : (place : EndPlace) (down : Option Down) (work : Work) → IsSignalWork work (tells_down place down work)
tells_down_signals place down work = by (nat_eq (cause_number (work.edge.told_down place.wire.0)) (cause_number down)) where
  by : (b : Bool) → IsSignalWork work (cond b work (gives (effect.Wire place.wire down) (changes (with_told_down place.wire down) work)))
  by true = signals_not work
  by false = tells_wire_signals place.wire down work

pub tells_downs_signals : (plan : Plan) (places : List EndPlace) (work : Work) → IsSignalWork work (tells_downs plan places work)
tells_downs_signals plan [] work = signals_not work
tells_downs_signals plan (place ∷ places) work =
    let first : Work = cond place.terminal (tells_down place (down_at plan work.edge place) work) work in
    signals_then work first (tells_downs plan (place ∷ places) work) (by place.terminal) (tells_downs_signals plan places first)
  where
    by : (b : Bool) → IsSignalWork work (cond b (tells_down place (down_at plan work.edge place) work) work)
    by true = tells_down_signals place (down_at plan work.edge place) work
    by false = signals_not work

-- work that forgets alone
pub forget_signals : (a b : Work) → ForgetsOnly a b → IsSignalWork a b
forget_signals a b only = record {
  edge = record { me = only.edge.me; circuits = only.edge.circuits; ticks = only.edge.ticks; wires = only.edge.wires; bits = only.edge.bits; priorities = only.edge.priorities };
  effects = record { more = []; given = only.effects ∙ sym (append-nil a.effects); own = refl };
  idle = only.idle;
}

pub forgets_downs_signals : (plan : Plan) (places : List EndPlace) (work : Work) → IsSignalWork work (forgets_downs plan places work)
forgets_downs_signals plan places work = forget_signals work (forgets_downs plan places work) (forgets_downs_only plan places work)

-- ---- walks

pub mend_signals : (plan : Plan) (told : Answers) → MendSteps plan told IsSignalWork
mend_signals plan told = record {
  same = signals_not;
  joined = signals_then;
  advertises = λ place label content work here idle wished given. advertises_signals told place label content work;
  withdraws = λ place label content work here is wished. withdraws_signals told place label content work;
  chooses = chooses_signals plan;
  tells_status = λ place label content last work here is status other. tells_new_status_signals told place content _ work;
  tells_piece = λ place label content addresses work is. says_signals told place.peer (mac_withdrawal place.pw_id addresses content) work;
  forgets_wire = λ place why work here terminal is. forget_signals work (changes (forgetting_wire plan place.wire (wire_row plan place.wire)) work)
      (forgetting_only plan place.wire (wire_row plan place.wire) work);
  tells_down = λ place work here terminal other. tells_wire_signals place.wire (down_at plan work.edge place) work;
}

pub hear_signals : (plan : Plan) (told : Answers) → HearSteps plan told IsSignalWork
hear_signals plan told = record {
  mend = mend_signals plan told;
  happens = λ peer event work. session_signals work (happens_with_ends told peer event work) (happens_with_ends_works told any peer event work refl);
  advises = λ peer reply work. session_signals work (had_said peer (put_reply told peer reply work)).work (advice_works told any peer reply work refl);
  holds = λ peer kept octets work is. changes_signals (with_peering peer (Some (record kept { held = octets }))) work (held_signals peer (Some (record kept { held = octets })) work.edge);
  releases = λ peer fec label work. says_signals told peer (release fec label) work;
  binds = λ peer fec place binding work there is taken. changes_signals (with_end_changed (bound binding) (Some place)) work (changed_signals (bound binding) (Some place) work.edge);
  unbinds = λ peer fec label work there.
      changes_signals (with_named plan peer fec (unbound label) (group_unbound fec.group) fec.pw_id) work (named_signals plan peer fec (unbound label) (group_unbound fec.group) fec.pw_id work.edge);
  released = λ peer fec label work there.
      changes_signals (λ edge. with_released label (end_of_fec plan edge peer fec) edge) work (released_signals label (end_of_fec plan work.edge peer fec) work.edge);
  states = λ peer fec status work there.
      changes_signals (with_named plan peer fec (stated status) (group_stated fec.group status) fec.pw_id) work
      (named_signals plan peer fec (stated status) (group_stated fec.group status) fec.pw_id work.edge);
  clears = λ service addresses from work. forget_signals work (changes (withdrawing_at service addresses from) work) (withdrawing_only service addresses from work);
}

pub mends_once_signals : (plan : Plan) (told : Answers) (work : Work) → IsSignalWork work (mends_once plan told work).work
mends_once_signals plan told work = mends_once_holds plan told IsSignalWork (mend_signals plan told) work

pub mends_signals : (plan : Plan) (told : Answers) (work : Work) → IsSignalWork work (mends plan told work)
mends_signals plan told work = mends_holds plan told IsSignalWork (mend_signals plan told) work

pub acts_on_signals : (plan : Plan) (told : Answers) (peer : EdgeId) (message : Message) (work : Work) → has_end work.edge peer ≡ true → IsSignalWork work (acts_on plan told peer message work)
acts_on_signals plan told peer message work there = acts_on_holds plan told IsSignalWork (hear_signals plan told) peer message work there

pub hears_mapping_signals : (plan : Plan) (told : Answers) (peer : EdgeId) (fec : PwFec) (label : ℕ) (status : Option PwStatus) (points : List Point) (work : Work)
    → has_end work.edge peer ≡ true → IsSignalWork work (hears_mapping plan told peer fec label status points work)
hears_mapping_signals plan told peer fec label status points work there = hears_mapping_holds plan told IsSignalWork (hear_signals plan told) peer fec label status points work there

pub hears_withdraw_signals : (plan : Plan) (told : Answers) (peer : EdgeId) (fec : PwFec) (label : Option ℕ) (work : Work) → has_end work.edge peer ≡ true
    → IsSignalWork work (hears_withdraw plan told peer fec label work)
hears_withdraw_signals plan told peer fec label work there = hears_withdraw_holds plan told IsSignalWork (hear_signals plan told) peer fec label work there

pub hears_release_signals : (plan : Plan) (told : Answers) (peer : EdgeId) (fec : PwFec) (label : Option ℕ) (work : Work) → has_end work.edge peer ≡ true
    → IsSignalWork work (hears_release plan peer fec label work)
hears_release_signals plan told peer fec label work there = (hear_signals plan told).released peer fec label work there

pub hears_status_signals : (plan : Plan) (told : Answers) (peer : EdgeId) (code : StatusCode) (status : Option PwStatus) (fec : Option PwFec) (work : Work) → has_end work.edge peer ≡ true
    → IsSignalWork work (hears_status plan peer code status fec work)
hears_status_signals plan told peer code status fec work there = hears_status_holds plan told IsSignalWork (hear_signals plan told) peer code status fec work there

pub hears_one_signals : (plan : Plan) (told : Answers) (peer : EdgeId) (message : Message) (work : Work) → IsSignalWork work (hears_one plan told peer message work)
hears_one_signals plan told peer message work = hears_one_holds plan told IsSignalWork (hear_signals plan told) peer message work

pub hears_message_signals : (plan : Plan) (told : Answers) (peer : EdgeId) (message : Message) (work : Work) → IsSignalWork work (hears_message plan told peer message work)
hears_message_signals plan told peer message work = hears_message_holds plan told IsSignalWork (hear_signals plan told) peer message work

pub hears_messages_signals : (plan : Plan) (told : Answers) (peer : EdgeId) (messages : List Message) (work : Work) → IsSignalWork work (hears_messages plan told peer messages work)
hears_messages_signals plan told peer messages work = hears_messages_holds plan told IsSignalWork (hear_signals plan told) peer messages work

pub hears_pdu_signals : (plan : Plan) (told : Answers) (peer : EdgeId) (pdu : Pdu) (work : Work) → IsSignalWork work (hears_pdu plan told peer pdu work)
hears_pdu_signals plan told peer pdu work = hears_pdu_holds plan told IsSignalWork (hear_signals plan told) peer pdu work

pub hears_signals : (plan : Plan) (told : Answers) (peer : EdgeId) (octets : List ℕ) (work : Work) → IsSignalWork work (hears plan told peer octets work)
hears_signals plan told peer octets work = hears_holds plan told IsSignalWork (hear_signals plan told) peer octets work

pub hears_on_signals : (plan : Plan) (told : Answers) (peer : EdgeId) (octets : List ℕ) (kept : Option Peering) (work : Work) → IsSignalWork work (hears_on plan told peer octets kept work)
hears_on_signals plan told peer octets kept work = hears_on_holds plan told IsSignalWork (hear_signals plan told) peer octets kept work

-- ---- inputs about connections: work of signalling where they apply

-- work on an input, whether or not it applies
pub record IsSignalInput (old new : Work) : Type 0 where
  pub edge : IsSignalled old.edge new.edge
  pub effects : GivesOnly is_of_signalling old.effects new.effects

input_of : (old new : Work) → IsSignalWork old new → IsSignalInput old new
input_of old new signals = record { edge = signals.edge; effects = signals.effects }

idles_input : (work : Work) → IsSignalInput work (idles work)
unfolding idles
idles_input work = record { edge = signalled_not work.edge; effects = gives_none is_of_signalling work.effects }

-- the edge has heard, and mends
pub heard_signals : (plan : Plan) (told : Answers) (peer : EdgeId) (octets : List ℕ) (kept : Peering) (work : Work)
    → IsSignalWork work (mends plan told (hears_on plan told peer octets (Some kept) work))
heard_signals plan told peer octets kept work =
    let heard : Work = hears_on plan told peer octets (Some kept) work in
    signals_then work heard (mends plan told heard) (hears_on_signals plan told peer octets (Some kept) work) (mends_signals plan told heard)

pub octets_signal : (plan : Plan) (told : Answers) (peer : EdgeId) (octets : List ℕ) (kept : Option Peering) (work : Work) → IsSignalInput work (octets_input plan told peer octets kept work)
octets_signal plan told peer octets None work = idles_input work
octets_signal plan told peer octets (Some kept) work = input_of work (mends plan told (hears_on plan told peer octets (Some kept) work)) (heard_signals plan told peer octets kept work)

-- the session has ended, and the edge mends
pub ended_signals : (plan : Plan) (told : Answers) (peer : EdgeId) (work : Work) → IsSignalWork work (mends plan told (happens_with_ends told peer (table.Closed reason.Closed) work))
ended_signals plan told peer work =
    let ended : Work = happens_with_ends told peer (table.Closed reason.Closed) work in
    signals_then work ended (mends plan told ended) (session_signals work ended (happens_with_ends_works told any peer (table.Closed reason.Closed) work refl)) (mends_signals plan told ended)

pub lost_signals : (plan : Plan) (told : Answers) (peer : EdgeId) (work : Work) → IsSignalInput work (lost_input plan told peer work)
lost_signals plan told peer work = by (has_end work.edge peer) where
  by : (stands : Bool) → IsSignalInput work (cond stands (mends plan told (happens_with_ends told peer (table.Closed reason.Closed) work)) (idles work))
  by true = input_of work (mends plan told (happens_with_ends told peer (table.Closed reason.Closed) work)) (ended_signals plan told peer work)
  by false = idles_input work

-- the session has begun, and the edge mends
pub begun_signals : (plan : Plan) (told : Answers) (peer : EdgeId) (kept : Peering) (work : Work) → IsSignalWork work (mends plan told (connects told peer kept work))
begun_signals plan told peer kept work =
    let begun : Work = connects told peer kept work in
    signals_then work begun (mends plan told begun) (session_signals work begun (connects_works told any peer kept work refl)) (mends_signals plan told begun)

pub connected_signals : (plan : Plan) (told : Answers) (peer : EdgeId) (work : Work) → IsSignalInput work (connected_input plan told peer work)
connected_signals plan told peer work = by (are_joined plan work.edge.me.0 peer.0 && not (has_end work.edge peer)) where
  between : (first second : Option EdgePlan) → IsSignalInput work (connects_between plan told peer first second work)
  between None second = idles_input work
  between (Some first) None = idles_input work
  between (Some first) (Some second) = input_of work (mends plan told (connects told peer (opened_with first second) work)) (begun_signals plan told peer (opened_with first second) work)

  by : (applies : Bool) → IsSignalInput work (cond applies (connects_between plan told peer (slice_get plan.edges work.edge.me.0) (slice_get plan.edges peer.0) work) (idles work))
  by true = between (slice_get plan.edges work.edge.me.0) (slice_get plan.edges peer.0)
  by false = idles_input work

-- ---- a tick

-- a tick keeps the place, the circuits, the wires and their bits, and gives out effects of signalling alone
pub record IsTickWork (old new : Work) : Type 0 where
  pub me : new.edge.me ≡ old.edge.me
  pub circuits : new.edge.circuit_on ≡ old.edge.circuit_on
  pub wires : new.edge.wire_on ≡ old.edge.wire_on
  pub bits : new.edge.bits ≡ old.edge.bits
  pub effects : GivesOnly is_of_signalling old.effects new.effects
  pub idle : new.idle ≡ old.idle

pub tick_works : (plan : Plan) (told : Answers) (work : Work) → IsTickWork work (tick_input plan told work)
unfolding changes with_learned with_ticks with_kept
tick_works plan told work =
    let counted_it : Work = changes counted work in
    let ticked : Work = ticks_sessions told 0 (length plan.edges) counted_it in
    let forgot : Work = changes (forgetting plan) ticked in
    let first = ticks_hold plan told IsSignalWork (hear_signals plan told) 0 (length plan.edges) counted_it in
    let last = mends_signals plan told forgot in
    record {
      me = last.edge.me ∙ first.edge.me;
      circuits = last.edge.circuits ∙ first.edge.circuits;
      wires = last.edge.wires ∙ first.edge.wires;
      bits = last.edge.bits ∙ first.edge.bits;
      effects = gives_then is_of_signalling work.effects ticked.effects (tick_input plan told work).effects first.effects last.effects;
      idle = last.idle ∙ first.idle;
    }

-- ---- what is set at an edge

-- turning a circuit keeps the place, the ticks, the wires and their bits, and gives out effects of signalling alone
pub record IsCircuitInput (old new : Work) : Type 0 where
  pub me : new.edge.me ≡ old.edge.me
  pub ticks : new.edge.ticks ≡ old.edge.ticks
  pub wires : new.edge.wire_on ≡ old.edge.wire_on
  pub bits : new.edge.bits ≡ old.edge.bits
  pub effects : GivesOnly is_of_signalling old.effects new.effects

-- what is set of a wire keeps the place, the circuits and the ticks, and gives out effects of signalling alone
pub record IsWireInput (old new : Work) : Type 0 where
  pub me : new.edge.me ≡ old.edge.me
  pub circuits : new.edge.circuit_on ≡ old.edge.circuit_on
  pub ticks : new.edge.ticks ≡ old.edge.ticks
  pub effects : GivesOnly is_of_signalling old.effects new.effects

turned_signals : (plan : Plan) (told : Answers) (circuit : CircuitId) (row : CircuitPlan) (on : Bool) (work : Work) → IsCircuitInput work (mends plan told (changes (turned plan circuit row on) work))
unfolding changes with_addresses with_circuit
turned_signals plan told circuit row true work =
    let signals = mends_signals plan told (changes (turned plan circuit row true) work) in
    record { me = signals.edge.me; ticks = signals.edge.ticks; wires = signals.edge.wires; bits = signals.edge.bits; effects = signals.effects }
turned_signals plan told circuit row false work =
    let signals = mends_signals plan told (changes (turned plan circuit row false) work) in
    record { me = signals.edge.me; ticks = signals.edge.ticks; wires = signals.edge.wires; bits = signals.edge.bits; effects = signals.effects }

pub circuit_signals : (plan : Plan) (told : Answers) (circuit : CircuitId) (on : Bool) (row : Option CircuitPlan) (work : Work) → IsCircuitInput work (circuit_input plan told circuit on row work)
unfolding idles
circuit_signals plan told circuit on None work = record { me = refl; ticks = refl; wires = refl; bits = refl; effects = gives_none is_of_signalling work.effects }
circuit_signals plan told circuit on (Some row) work = by (is_own work.edge row && not (is_same on (is_on work.edge circuit))) where
  by : (b : Bool) → IsCircuitInput work (cond b (mends plan told (changes (turned plan circuit row on) work)) (idles work))
  by true = turned_signals plan told circuit row on work
  by false = record { me = refl; ticks = refl; wires = refl; bits = refl; effects = gives_none is_of_signalling work.effects }

idles_wire : (work : Work) → IsWireInput work (idles work)
unfolding idles
idles_wire work = record { me = refl; circuits = refl; ticks = refl; effects = gives_none is_of_signalling work.effects }

turned_wire_signals : (plan : Plan) (told : Answers) (wire : WireId) (on : Bool) (work : Work) → IsWireInput work (mends plan told (changes (turned_wire wire on) work))
unfolding changes with_renewed with_wire
turned_wire_signals plan told wire true work =
    let signals = mends_signals plan told (changes (turned_wire wire true) work) in
    record { me = signals.edge.me; circuits = signals.edge.circuits; ticks = signals.edge.ticks; effects = signals.effects }
turned_wire_signals plan told wire false work =
    let signals = mends_signals plan told (changes (turned_wire wire false) work) in
    record { me = signals.edge.me; circuits = signals.edge.circuits; ticks = signals.edge.ticks; effects = signals.effects }

pub wire_signals : (plan : Plan) (told : Answers) (wire : WireId) (on : Bool) (work : Work) → IsWireInput work (wire_input plan told wire on work)
wire_signals plan told wire on work = by (passes plan work.edge.me wire && not (is_same on (work.edge.wire_on wire.0))) where
  by : (b : Bool) → IsWireInput work (cond b (mends plan told (changes (turned_wire wire on) work)) (idles work))
  by true = turned_wire_signals plan told wire on work
  by false = idles_wire work

bits_signal : (plan : Plan) (told : Answers) (wire : WireId) (bits : ℕ) (work : Work) → IsWireInput work (mends plan told (changes (with_bits wire bits) work))
unfolding changes with_bits
bits_signal plan told wire bits work =
    let signals = mends_signals plan told (changes (with_bits wire bits) work) in
    record { me = signals.edge.me; circuits = signals.edge.circuits; ticks = signals.edge.ticks; effects = signals.effects }

pub status_signals : (plan : Plan) (told : Answers) (wire : WireId) (bits : ℕ) (work : Work) → IsWireInput work (status_input plan told wire bits work)
status_signals plan told wire bits work = by (ends_here plan work.edge.me wire && not (nat_eq bits (work.edge.bits wire.0))) where
  by : (b : Bool) → IsWireInput work (cond b (mends plan told (changes (with_bits wire bits) work)) (idles work))
  by true = bits_signal plan told wire bits work
  by false = idles_wire work

priority_signals_on : (plan : Plan) (told : Answers) (wire : WireId) (priority : ℕ) (work : Work) → IsWireInput work (mends plan told (changes (with_priority wire priority) work))
unfolding changes with_priority
priority_signals_on plan told wire priority work =
    let signals = mends_signals plan told (changes (with_priority wire priority) work) in
    record { me = signals.edge.me; circuits = signals.edge.circuits; ticks = signals.edge.ticks; effects = signals.effects }

pub priority_signals : (plan : Plan) (told : Answers) (wire : WireId) (priority : ℕ) (work : Work) → IsWireInput work (priority_input plan told wire priority work)
priority_signals plan told wire priority work = by (is_own_spoke work.edge.me (wire_row plan wire) && not (nat_eq priority (work.edge.priority wire.0))) where
  by : (b : Bool) → IsWireInput work (cond b (mends plan told (changes (with_priority wire priority) work)) (idles work))
  by true = priority_signals_on plan told wire priority work
  by false = idles_wire work
