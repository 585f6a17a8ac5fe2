-- An edge's ends follow its sessions: where no session with a neighbour stands, nothing was told of a wire by either side.
use Rattle.std.proofs.Common.{◌≡◌, ◌&&◌, ◌∙◌, ℕ, Bool, true, false, List, Option, Some, None, cond, sym, ap, nat_eq, refl, option_and_then, inl, inr}
use Rattle.std.proofs.lemmas.Bool.{cases_Bool, eqb-true, eq-eqb}
use Rattle.net_values.proofs.BoolLemmas.{first_holds}
use Rattle.net_values.proofs.RowLemmas.{found_passes}
use Rattle.net_base.specs.declared.plan.Plan.{Plan}
use Rattle.net_base.specs.declared.plan.circuit_plan.CircuitPlan.{CircuitPlan}
use Rattle.net_base.specs.declared.plan.places.CircuitId.{CircuitId}
use Rattle.net_base.specs.declared.plan.places.EdgeId.{EdgeId}
use Rattle.net_base.specs.declared.plan.places.WireId.{WireId}
use Rattle.net_base.specs.declared.plan.wire_plan.WirePlan.{WirePlan}
use Rattle.net_base.specs.plan.Paths.{offer_of}
use Rattle.net_base.specs.plan.Places.{wire_row}
use Rattle.pw_tlvs.specs.declared.pw_fec.PwFec.{PwFec}
use Rattle.pw_signalling.specs.declared.told.Told.{Told}
use Rattle.pw_signalling.specs.End.{EndState, Idle, Advertised, fresh}
use Rattle.pw_signalling.specs.Rows.{bound, group_stated, group_unbound, released, renewed, stated, unbound, withdrawn, advertised}
use Rattle.session_core.specs.declared.reply.Reply.{Reply}
use Rattle.session_core.specs.Table.{SessionEvent}
use Rattle.ldp_grammar.specs.declared.message.Message.{Message}
use Rattle.pw_messages.specs.Content.{mac_withdrawal, mapping, release, status_notification, withdrawal}
use Rattle.pw_messages.specs.LinkAnswers.{Answers}
use Rattle.edge_model.specs.Circuit.{turned}
use Rattle.edge_model.specs.Clear.{withdrawing_at}
use Rattle.edge_model.specs.declared.end_place.EndPlace.{EndPlace}
use Rattle.edge_model.specs.declared.input.Input.{Input}
use Rattle.edge_model.specs.EndPlaces.{end_named, end_places, is_named}
use Rattle.edge_model.specs.Hear.{hears_message, hears_one}
use Rattle.edge_model.specs.Mend.{passed_wish, advertising, forgetting_wire, is_up_with, mends, telling_status, terminal_wish, wish, wish_of, withdrawing}
use Rattle.edge_model.specs.Put.{message_octets_of, put_octets, put_reply}
use Rattle.edge_model.specs.Send.{sends}
use Rattle.edge_model.specs.Session.{clears_ends, had_put, had_said, happens, happens_with_ends, says, says_to, losing_ends}
use Rattle.edge_model.specs.Signal.{end_of_fec, with_end_changed, with_named, with_released}
use Rattle.edge_model.specs.State.{EdgeState, Peering, empty_edge, end_at, has_end, is_there, with_addresses, with_bits, with_chosen, with_circuit, with_end, with_ends_beside, with_learned, with_next_label, with_next_ping, with_peering, with_priority, with_renewed, with_ticks, with_told_down, with_wire, without_ends, without_peerings, with_kept}
use Rattle.edge_model.specs.Step.{edge_step}
use Rattle.edge_model.specs.Wire.{turned_wire}
use Rattle.edge_model.specs.Work.{Work, changes, gives, idles, next_answer}
use Rattle.edge_model.proofs.BridgeLemmas.{LearnsOnly, forgetting_only, sends_bridges, withdrawing_only}
use Rattle.edge_model.proofs.SessionLemmas.{IsSessionWork, happens_works, message_works, reply_works}
use Rattle.edge_model.proofs.WalkLemmas.{HearSteps, InputSteps, MendSteps, hears_message_holds, hears_one_holds, mends_holds, step_holds}
use Rattle.edge_model.specs.Labels.{giving}
use Rattle.label_space.specs.declared.kept.Kept.{Kept}

-- where no session stands, each end is as before the first input
abbrev pub EndsFollowSessions : EdgeState → Type 0
EndsFollowSessions edge = (wire k : ℕ) → edge.peering k ≡ None → edge.ends wire k ≡ fresh

abbrev pub FollowsOn : Work → Work → Type 0
FollowsOn a b = EndsFollowSessions a.edge → EndsFollowSessions b.edge

pub empty_follows : (plan : Plan) (me : EdgeId) → EndsFollowSessions (empty_edge plan me)
empty_follows plan me wire k none = refl

follows_then : (a b c : Work) → FollowsOn a b → FollowsOn b c → FollowsOn a c
follows_then a b c first next follows = next (first follows)

-- a session that stands is one
something : (kept : Option Peering) → is_there kept ≡ true → kept ≡ None → ⊥
something None there none = absurd (cc (there))
something (Some kept) there none = absurd (cc (none))

-- ---- sessions

-- this peer alone
abbrev only : EdgeId → ℕ → Bool
only peer k = nat_eq k peer.0

own : (peer : EdgeId) → only peer peer.0 ≡ true
own peer = eq-eqb peer.0 peer.0 refl

-- all ends but those beside a peer follow their sessions
abbrev FollowBut : EdgeId → EdgeState → Type 0
FollowBut peer edge = (wire k : ℕ) → nat_eq k peer.0 ≡ false → edge.peering k ≡ None → edge.ends wire k ≡ fresh

session_follows : (peer : EdgeId) (a b : Work) → IsSessionWork (only peer) a b → EndsFollowSessions a.edge → FollowBut peer b.edge
session_follows peer a b works follows wire k apart none = works.edge.ends wire k apart ∙ follows wire k (sym (works.edge.others k apart) ∙ none)

-- the ends beside the peer are lost where its session does not stand
clears_follows : (peer : EdgeId) (work : Work) → FollowBut peer work.edge → EndsFollowSessions (clears_ends peer work).edge
unfolding changes with_ends_beside with_kept
clears_follows peer work follows = by (has_end work.edge peer) refl where
  by : (b : Bool) → has_end work.edge peer ≡ b → EndsFollowSessions (cond b work (changes (losing_ends peer) work)).edge
  by true stands wire k none = elim (cases_Bool (nat_eq k peer.0)) [
    | inl here ↦ absurd (something (work.edge.peering peer.0) stands (ap work.edge.peering (sym (eqb-true k peer.0 here)) ∙ none))
    | inr away ↦ follows wire k away none
  ]
  by false gone wire k none = elim (cases_Bool (nat_eq k peer.0)) [
    | inl here ↦ rw here refl
    | inr away ↦ rw away (follows wire k away none)
  ]

happens_follows : (told : Answers) (peer : EdgeId) (event : SessionEvent) (work : Work) → FollowsOn work (happens_with_ends told peer event work)
happens_follows told peer event work follows =
    let happened : Work = happens told peer event work in
    clears_follows peer happened (session_follows peer work happened (happens_works told (only peer) peer event work (own peer)) follows)

says_to_follows : (told : Answers) (peer : EdgeId) (message : ℕ → Message) (kept : Option Peering) (work : Work) → FollowsOn work (says_to told peer message kept work).work
says_to_follows told peer message None work follows = follows
says_to_follows told peer message (Some kept) work follows =
    let said : Work = had_put peer (put_octets peer (message_octets_of kept message) (next_answer told work) work) in
    clears_follows peer said (session_follows peer work said (message_works told (only peer) peer message kept work (own peer)) follows)

pub says_follows : (told : Answers) (peer : EdgeId) (message : ℕ → Message) (work : Work) → FollowsOn work (says told peer message work).work
says_follows told peer message work = says_to_follows told peer message (work.edge.peering peer.0) work

advises_follows : (told : Answers) (peer : EdgeId) (reply : Reply) (work : Work) → FollowsOn work (had_said peer (put_reply told peer reply work)).work
advises_follows told peer reply work follows =
    let said : Work = had_put peer (put_reply told peer reply work) in
    clears_follows peer said (session_follows peer work said (reply_works told (only peer) peer reply work (own peer)) follows)

-- ---- ends

-- an end beside a peer with which a session stands may become what it likes
end_follows : (place : EndPlace) (end : EndState) (edge : EdgeState) → (edge.peering place.peer.0 ≡ None → ⊥) → EndsFollowSessions edge → EndsFollowSessions (with_end place end edge)
unfolding with_end with_kept
end_follows place end edge stands follows wire k none = elim (cases_Bool (nat_eq k place.peer.0)) [
  | inl here ↦ absurd (stands (ap edge.peering (sym (eqb-true k place.peer.0 here)) ∙ none))
  | inr away ↦ (elim (cases_Bool (nat_eq wire place.wire.0)) [
    | inl same ↦ rw (same, away) (ap (λ (w : ℕ). edge.ends w k) (sym (eqb-true wire place.wire.0 same)) ∙ follows wire k none)
    | inr other ↦ rw other (follows wire k none)
  ])
]

beside_follows : (peer : EdgeId) (change : EndState → EndState) (edge : EdgeState) → (edge.peering peer.0 ≡ None → ⊥) → EndsFollowSessions edge → EndsFollowSessions (with_ends_beside peer change edge)
unfolding with_ends_beside with_kept
beside_follows peer change edge stands follows wire k none = elim (cases_Bool (nat_eq k peer.0)) [
  | inl here ↦ absurd (stands (ap edge.peering (sym (eqb-true k peer.0 here)) ∙ none))
  | inr away ↦ rw away (follows wire k none)
]

pub end_named_beside : (plan : Plan) (me peer : EdgeId) (pw_id : ℕ) (place : EndPlace) → end_named plan me peer pw_id ≡ Some place → place.peer.0 ≡ peer.0
end_named_beside plan me peer pw_id place is =
    eqb-true place.peer.0 peer.0 (first_holds (nat_eq place.peer.0 peer.0) (nat_eq place.pw_id pw_id) (found_passes (is_named peer pw_id) (end_places plan me) place is))

changed_follows : (peer : EdgeId) (change : EndState → EndState) (place : Option EndPlace) (edge : EdgeState) → ((p : EndPlace) → place ≡ Some p → p.peer.0 ≡ peer.0) → has_end edge peer ≡ true
    → EndsFollowSessions edge → EndsFollowSessions (with_end_changed change place edge)
changed_follows peer change None edge beside there follows = follows
changed_follows peer change (Some place) edge beside there follows =
    end_follows place (change (end_at edge place)) edge (λ none. something (edge.peering peer.0) there (ap edge.peering (sym (beside place refl)) ∙ none)) follows

kept_follows : (kept : List Kept) (edge : EdgeState) → EndsFollowSessions edge → EndsFollowSessions (with_kept kept edge)
unfolding with_kept
kept_follows kept edge follows wire k none = follows wire k none

released_follows : (peer : EdgeId) (label : Option ℕ) (place : Option EndPlace) (edge : EdgeState) → ((p : EndPlace) → place ≡ Some p → p.peer.0 ≡ peer.0) → has_end edge peer ≡ true
    → EndsFollowSessions edge → EndsFollowSessions (with_released label place edge)
released_follows peer label None edge beside there follows = follows
released_follows peer label (Some place) edge beside there follows =
    kept_follows _ _ (changed_follows peer (released label) (Some place) edge beside there follows)

named_follows : (plan : Plan) (peer : EdgeId) (fec : PwFec) (one all : EndState → EndState) (pw_id : Option ℕ) (edge : EdgeState) → has_end edge peer ≡ true
    → EndsFollowSessions edge → EndsFollowSessions (with_named plan peer fec one all pw_id edge)
named_follows plan peer fec one all None edge there follows = beside_follows peer all edge (λ none. something (edge.peering peer.0) there none) follows
named_follows plan peer fec one all (Some pw_id) edge there follows =
    changed_follows peer one (end_named plan edge.me peer pw_id) edge (λ p is. end_named_beside plan edge.me peer pw_id p is) there follows

-- the same by a FEC
pub end_of_fec_beside : (plan : Plan) (edge : EdgeState) (peer : EdgeId) (fec : PwFec) (place : EndPlace) → end_of_fec plan edge peer fec ≡ Some place → place.peer.0 ≡ peer.0
end_of_fec_beside plan edge peer fec place is = by fec.pw_id is where
  by : (pw_id : Option ℕ) → option_and_then (end_named plan edge.me peer) pw_id ≡ Some place → place.peer.0 ≡ peer.0
  by None is = absurd (cc (is))
  by (Some pw_id) is = end_named_beside plan edge.me peer pw_id place is

-- ---- an edge mends

-- an end that should tell something has a session that is up, one that tells something has a session
pub wish_up : (plan : Plan) (edge : EdgeState) (place : EndPlace) (content : Told) → wish plan edge place ≡ Some content → is_up_with (edge.peering place.peer.0) ≡ true
wish_up plan edge place content is = of_row (wire_row plan place.wire) is where
  by : (told : Option Told) (on up : Bool) → cond (on && up) told None ≡ Some content → up ≡ true
  by told true true is = refl
  by told true false is = absurd (cc (is))
  by told false up is = absurd (cc (is))

  of_row : (row : Option WirePlan) → wish_of plan edge place row ≡ Some content → is_up_with (edge.peering place.peer.0) ≡ true
  of_row None is = absurd (cc (is))
  of_row (Some row) is =
      by (cond place.terminal (terminal_wish plan edge place (offer_of row edge.me.0)) (passed_wish plan edge place row))
      (edge.wire_on place.wire.0) (is_up_with (edge.peering place.peer.0)) is

up_stands : (kept : Option Peering) → is_up_with kept ≡ true → kept ≡ None → ⊥
up_stands None up none = absurd (cc (up))
up_stands (Some kept) up none = absurd (cc (none))

advertised_stands : (edge : EdgeState) (place : EndPlace) (label : ℕ) (content : Told) → EndsFollowSessions edge → (end_at edge place).local ≡ Advertised label content
    → edge.peering place.peer.0 ≡ None → ⊥
advertised_stands edge place label content follows is none =
    let wrong : Idle false ≡ Advertised label content = sym (ap (λ (e : EndState). e.local) (follows place.wire.0 place.peer.0 none)) ∙ is in
    absurd (cc (wrong))

next_label_follows : (label : ℕ) (edge : EdgeState) → EndsFollowSessions edge → EndsFollowSessions (with_next_label label edge)
unfolding with_next_label with_kept
next_label_follows label edge follows wire k none = follows wire k none

giving_follows : (label : ℕ) (edge : EdgeState) → EndsFollowSessions edge → EndsFollowSessions (giving label edge)
unfolding with_next_label with_kept
giving_follows label edge follows wire k none = follows wire k none

change_says_follows : (told : Answers) (peer : EdgeId) (message : ℕ → Message) (change : EdgeState → EdgeState) (work : Work)
    → (EndsFollowSessions work.edge → EndsFollowSessions (change work.edge)) → FollowsOn work (says told peer message (changes change work)).work
unfolding changes
change_says_follows told peer message change work one follows = says_follows told peer message (changes change work) (one follows)

-- where the addresses alone changed, ends and sessions are as before
learns_follow : (a b : Work) → LearnsOnly a.edge b.edge → FollowsOn a b
learns_follow a b only follows wire k none =
    ap (λ (ends : ℕ → ℕ → EndState). ends wire k) only.ends ∙ follows wire k (sym (ap (λ (peering : ℕ → Option Peering). peering k) only.peering) ∙ none)

pub mend_follows : (plan : Plan) (told : Answers) → MendSteps plan told FollowsOn
unfolding changes gives with_chosen with_told_down
mend_follows plan told = record {
  same = λ work follows. follows;
  joined = follows_then;
  advertises = λ place label content work here idle wished given.
      change_says_follows told place.peer (mapping place.pw_id label content) (advertising place label content) work
      (λ follows. giving_follows label (with_end place (advertised label content (end_at work.edge place)) work.edge)
      (end_follows place (advertised label content (end_at work.edge place)) work.edge (up_stands (work.edge.peering place.peer.0) (wish_up plan work.edge place content wished)) follows));
  withdraws = λ place label content work here is wished.
      change_says_follows told place.peer (withdrawal place.pw_id label content) (withdrawing place) work
      (λ follows. end_follows place (withdrawn (end_at work.edge place)) work.edge (advertised_stands work.edge place label content follows is) follows);
  chooses = λ work follows. follows;
  tells_status = λ place label content last work here is status other.
      change_says_follows told place.peer (status_notification place.pw_id _ content) (telling_status place _) work
      (λ follows. end_follows place _ work.edge (advertised_stands work.edge place label content follows is) follows);
  tells_piece = λ place label content addresses work is. says_follows told place.peer (mac_withdrawal place.pw_id addresses content) work;
  forgets_wire = λ place why work here terminal is. learns_follow work (changes (forgetting_wire plan place.wire (wire_row plan place.wire)) work)
      (forgetting_only plan place.wire (wire_row plan place.wire) work).edge;
  tells_down = λ place work here terminal other follows. follows;
}

-- ---- an edge hears

changes_follow : (change : EdgeState → EdgeState) (work : Work) → (EndsFollowSessions work.edge → EndsFollowSessions (change work.edge)) → FollowsOn work (changes change work)
unfolding changes
changes_follow change work one follows = one follows

peering_follows : (peer : EdgeId) (kept : Peering) (edge : EdgeState) → EndsFollowSessions edge → EndsFollowSessions (with_peering peer (Some kept) edge)
unfolding with_peering
peering_follows peer kept edge follows wire k none = elim (cases_Bool (nat_eq k peer.0)) [
  | inl here ↦ absurd (kept_none (rw here at none))
  | inr away ↦ follows wire k (rw away at none)
] where
  kept_none : Some kept ≡ None → ⊥
  kept_none is = absurd (cc (is))

pub hear_follows : (plan : Plan) (told : Answers) → HearSteps plan told FollowsOn
hear_follows plan told = record {
  mend = mend_follows plan told;
  happens = happens_follows told;
  advises = advises_follows told;
  holds = λ peer kept octets work is. changes_follow (with_peering peer (Some (record kept { held = octets }))) work (peering_follows peer (record kept { held = octets }) work.edge);
  releases = λ peer fec label work. says_follows told peer (release fec label) work;
  binds = λ peer fec place binding work there is taken.
      changes_follow (with_end_changed (bound binding) (Some place)) work
      (changed_follows peer (bound binding) (Some place) work.edge (λ p same. end_of_fec_beside plan work.edge peer fec p (is ∙ same)) there);
  unbinds = λ peer fec label work there.
      changes_follow (with_named plan peer fec (unbound label) (group_unbound fec.group) fec.pw_id) work
      (named_follows plan peer fec (unbound label) (group_unbound fec.group) fec.pw_id work.edge there);
  released = λ peer fec label work there.
      changes_follow (λ edge. with_released label (end_of_fec plan edge peer fec) edge) work
      (released_follows peer label (end_of_fec plan work.edge peer fec) work.edge (λ p is. end_of_fec_beside plan work.edge peer fec p is) there);
  states = λ peer fec status work there.
      changes_follow (with_named plan peer fec (stated status) (group_stated fec.group status) fec.pw_id) work
      (named_follows plan peer fec (stated status) (group_stated fec.group status) fec.pw_id work.edge there);
  clears = λ service addresses from work. learns_follow work (changes (withdrawing_at service addresses from) work) (withdrawing_only service addresses from work).edge;
}

-- ---- inputs

turned_follows : (plan : Plan) (circuit : CircuitId) (row : CircuitPlan) (on : Bool) (edge : EdgeState) → EndsFollowSessions edge → EndsFollowSessions (turned plan circuit row on edge)
unfolding with_addresses with_circuit
turned_follows plan circuit row true edge follows = follows
turned_follows plan circuit row false edge follows = follows

renewed_follows : (wire : WireId) (edge : EdgeState) → EndsFollowSessions edge → EndsFollowSessions (with_renewed wire edge)
unfolding with_renewed
renewed_follows wire edge follows w k none = by (nat_eq w wire.0) where
  by : (b : Bool) → cond b (renewed (edge.ends w k)) (edge.ends w k) ≡ fresh
  by true = ap renewed (follows w k none)
  by false = follows w k none

turned_wire_follows : (wire : WireId) (on : Bool) (edge : EdgeState) → EndsFollowSessions edge → EndsFollowSessions (turned_wire wire on edge)
unfolding with_wire
turned_wire_follows wire true edge follows = renewed_follows wire (with_wire wire true edge) follows
turned_wire_follows wire false edge follows = follows

pub input_follows : (plan : Plan) (told : Answers) → InputSteps plan told FollowsOn
unfolding changes gives idles with_addresses with_bits with_learned with_next_ping with_priority with_ticks without_ends without_peerings with_kept
input_follows plan told = record {
  hear = hear_follows plan told;
  idles = λ work follows. follows;
  opens = λ peer first second work none follows. peering_follows peer _ work.edge follows;
  restarts = λ work follows wire k none. refl;
  meets = λ peer work none follows. follows;
  counts = λ work follows. follows;
  forgets = λ work follows. follows;
  turns = λ circuit row on work. changes_follow (turned plan circuit row on) work (turned_follows plan circuit row on work.edge);
  turns_wire = λ wire on work. changes_follow (turned_wire wire on) work (turned_wire_follows wire on work.edge);
  sets_bits = λ wire bits work follows. follows;
  sets_priority = λ wire priority work follows. follows;
  learns = λ service frame arrival work follows. follows;
  leaves = λ circuit octets work follows. follows;
  drops = λ cause work follows. follows;
  sends_packet = λ place came octets work. learns_follow work (sends told place came octets work) (sends_bridges told place came octets work).edge;
  numbers_ping = λ wire work follows. follows;
  tells_answer = λ wire sequence work follows. follows;
}

pub mends_follows : (plan : Plan) (told : Answers) (work : Work) → FollowsOn work (mends plan told work)
mends_follows plan told work = mends_holds plan told FollowsOn (mend_follows plan told) work

pub hears_one_follows : (plan : Plan) (told : Answers) (peer : EdgeId) (message : Message) (work : Work) → FollowsOn work (hears_one plan told peer message work)
hears_one_follows plan told peer message work = hears_one_holds plan told FollowsOn (hear_follows plan told) peer message work

pub hears_message_follows : (plan : Plan) (told : Answers) (peer : EdgeId) (message : Message) (work : Work) → FollowsOn work (hears_message plan told peer message work)
hears_message_follows plan told peer message work = hears_message_holds plan told FollowsOn (hear_follows plan told) peer message work

-- on every input
pub step_follows : (plan : Plan) (told : Answers) (input : Input) (work : Work) → EndsFollowSessions work.edge → EndsFollowSessions (edge_step plan told input work).edge
step_follows plan told input work = step_holds plan told FollowsOn (input_follows plan told) input work
