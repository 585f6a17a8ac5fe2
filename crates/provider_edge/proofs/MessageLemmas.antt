-- An edge hears messages and octets, and has ticks.
use Rattle.std.proofs.Common.{◌≡◌, ◌<◌, ◌≤◌, ◌+◌, ◌-◌, ◌++◌, ◌∙◌, ℕ, zero, suc, Bool, true, false, List, [], ◌∷◌, Option, Some, None, Result, Ok, Err, cond, length, drop, slice_index_or, refl, ap, sym, subst, arith}
use Rattle.std.specs.Prelude.{OnOk}
use Rattle.std.specs.List.{AllByRecursion}
use Rattle.net_base.specs.declared.outside.link_call.LinkCall.{LinkCall}
use Rattle.net_base.specs.declared.plan.Plan.{Plan}
use Rattle.net_base.specs.declared.plan.places.EdgeId.{EdgeId}
use Rattle.ldp_codec.specs.declared.decode_fault.DecodeFault.{DecodeFault}
use Rattle.ldp_grammar.specs.declared.ldp_id.LdpId.{LdpId}
use Rattle.ldp_grammar.specs.declared.message.Message.{Message}
use Rattle.ldp_grammar.specs.declared.message.Message.TheVariants as message
use Rattle.ldp_grammar.specs.declared.pdu.Pdu.{Pdu}
use Rattle.net_values.specs.Octets.{AreOctets}
use Rattle.session_core.specs.Table.{Heard, Received, Refused, Ticked}
use Rattle.pw_messages.specs.LinkAnswers.{Answers}
use Rattle.edge_model.specs.declared.effect.Effect.{Effect}
use Rattle.edge_model.specs.Hear.{acts, hears, hears_message, hears_messages, hears_on, hears_one, hears_pdu, holds, was_up}
use Rattle.edge_model.specs.Mend.{mends}
use Rattle.edge_model.proofs.HeldLemmas.{hears_few_held, held_is}
use Rattle.edge_model.specs.Session.{clears_ends, happens_with_ends, losing_ends}
use Rattle.edge_model.specs.State.{EdgeState, Peering, has_end, is_there, with_ends_beside, with_kept, with_peering}
use Rattle.edge_model.specs.Tick.{ticks_sessions}
use Rattle.edge_model.specs.Work.{Work, changes}
use Rattle.peer_dialogue.specs.Heard.{CanBeHeard}
use Rattle.peer_dialogue.specs.Hearing.{HearsOn, IsAtFault, IsAtPdu, IsWaiting, IsWaitingFor, alive}
use Rattle.peer_dialogue.specs.Peering.{at_edge}
use Rattle.peer_dialogue.proofs.HearLemmas.{ended_all, heard_fault, heard_pdu, held_all, messages_more}
use Rattle.peer_dialogue.proofs.SpeakerLemmas.{read_peer}
use Rattle.provider_edge.specs.Hearing.{AreTakenOut}
use Rattle.provider_edge.specs.Sessions.{longest_of}
use Rattle.provider_edge.specs.Lists.{EdgeLists, seen}

-- ---- no session is left

pub left_none_read : (peer : EdgeId) (mid now : EdgeState) (left : Option Peering) → now ≡ with_peering peer left mid → left ≡ None → now.peering peer.0 ≡ None
left_none_read peer mid now left puts none = ap (λ (e : EdgeState). e.peering peer.0) puts ∙ (read_peer peer left mid ∙ none)

-- the loss of ends leaves that as it is
pub cleared_none : (peer : EdgeId) (edge now : EdgeState) (calls : List LinkCall) (out : List Effect) → at_edge now calls out ≡ clears_ends peer (at_edge edge calls out)
    → edge.peering peer.0 ≡ None → now.peering peer.0 ≡ None
unfolding at_edge changes with_ends_beside with_kept
cleared_none peer edge now calls out is none =
    let start : Work = record { edge = edge; calls = calls; effects = out; idle = false } in
    ap (λ (w : Work). w.edge.peering peer.0) is
    ∙ (ap (λ (x : Option Peering). (cond (is_there x) start (changes (losing_ends peer) start)).edge.peering peer.0) none ∙ none)

-- ---- a message

pub message_none : (plan : Plan) (told : Answers) (peer : EdgeId) (message : Message) (edge : EdgeState) (calls : List LinkCall) (out : List Effect) → has_end edge peer ≡ false
    → at_edge edge calls out ≡ hears_message plan told peer message (at_edge edge calls out)
unfolding at_edge
message_none plan told peer message edge calls out none =
    let start : Work = record { edge = edge; calls = calls; effects = out; idle = false } in
    sym (ap (λ (b : Bool). cond b (mends plan told (hears_one plan told peer message start)) start) none)

pub message_some : (plan now : Plan) (told : Answers) (peer : EdgeId) (message : Message) (edge : EdgeState) (calls : List LinkCall) (out : List Effect) (mid work : Work)
    → has_end edge peer ≡ true → now ≡ plan
    → mid ≡ hears_one plan told peer message (at_edge edge calls out) → work ≡ mends now told mid
    → work ≡ hears_message plan told peer message (at_edge edge calls out)
unfolding at_edge
message_some plan now told peer message edge calls out mid work there same heard mended =
    let start : Work = record { edge = edge; calls = calls; effects = out; idle = false } in
    mended
    ∙ (ap (λ (p : Plan). mends p told mid) same
    ∙ (ap (mends plan told) heard
    ∙ sym (ap (λ (b : Bool). cond b (mends plan told (hears_one plan told peer message start)) start) there)))

pub one_heard : (plan now : Plan) (told : Answers) (peer : EdgeId) (message : Message) (edge : EdgeState) (calls : List LinkCall) (out : List Effect) (up : Bool) (mid work : Work) → up
    ≡ was_up (edge.peering peer.0) → now ≡ plan
    → mid ≡ happens_with_ends told peer (Received message) (at_edge edge calls out) → work ≡ acts now told peer message up mid
    → work ≡ hears_one plan told peer message (at_edge edge calls out)
unfolding at_edge
one_heard plan now told peer message edge calls out up mid work is same happened acted =
    let start : Work = record { edge = edge; calls = calls; effects = out; idle = false } in
    acted
    ∙ (ap (λ (p : Plan). acts p told peer message up mid) same
    ∙ (ap (acts plan told peer message up) happened
    ∙ ap (λ (b : Bool). acts plan told peer message b (happens_with_ends told peer (Received message) start)) is))

-- ---- messages

pub heard_at : (messages : List Message) (place : ℕ) (message : Message) → AllByRecursion CanBeHeard messages → place < length messages → message
    ≡ slice_index_or messages place message → CanBeHeard message
heard_at [] place message all within at = absurd (omega arith)
heard_at (x ∷ messages) zero message all within at = subst CanBeHeard (sym at) all.0
heard_at (x ∷ messages) (suc place) message all within at = heard_at messages place message all.1 (omega arith) at

pub messages_next : (plan now : Plan) (told : Answers) (peer : EdgeId) (messages : List Message) (place : ℕ) (message : Message) (work next whole : Work) → now ≡ plan
    → place < length messages → message ≡ slice_index_or messages place message
    → whole ≡ hears_messages plan told peer (drop place messages) work → next ≡ hears_message now told peer message work
    → whole ≡ hears_messages plan told peer (drop (place + 1) messages) next
messages_next plan now told peer messages place message work next whole same within at so_far heard =
    so_far
    ∙ (messages_more plan told peer messages place message work within at
    ∙ ap (hears_messages plan told peer (drop (place + 1) messages)) (sym (heard ∙ ap (λ (p : Plan). hears_message p told peer message work) same)))

pub pdu_begun : (plan : Plan) (told : Answers) (peer : EdgeId) (pdu : Pdu) (messages : List Message) (start mid : Work) → mid ≡ happens_with_ends told peer (Heard pdu.id) start
    → messages ≡ pdu.messages
    → hears_pdu plan told peer pdu start ≡ hears_messages plan told peer messages mid
pdu_begun plan told peer pdu messages start mid is all = sym (ap (λ (l : List Message). hears_messages plan told peer l mid) all ∙ ap (hears_messages plan told peer pdu.messages) is)

-- a PDU of one KeepAlive was heard
pub alive_heard : (plan now : Plan) (told : Answers) (peer : EdgeId) (sender : LdpId) (id : ℕ) (start mid work : Work) → now ≡ plan → mid ≡ happens_with_ends told peer (Heard sender) start
    → work ≡ hears_message now told peer (message.KeepAlive id) mid → work ≡ hears_pdu plan told peer (alive sender id) start
alive_heard plan now told peer sender id start mid work same is heard =
    heard ∙ (ap (λ (p : Plan). hears_message p told peer (message.KeepAlive id) mid) same ∙ ap (hears_message plan told peer (message.KeepAlive id)) is)

-- ---- octets

pub waits_none : (x : Option Peering) (held : List ℕ) → x ≡ None → IsWaitingFor x held
waits_none x held none = subst (λ (o : Option Peering). IsWaitingFor o held) (sym none) tt

pdu_kept : (plan now : Plan) (told : Answers) (peer : EdgeId) (held rest more : List ℕ) (pdu : Pdu) (kept : Peering) (max : ℕ) (edge : EdgeState) (calls : List LinkCall) (out : List Effect) (work : Work) → now ≡ plan
    → AreOctets held → AreOctets more → max ≤ 4096 → max ≡ kept.session.max_pdu → Some kept ≡ edge.peering peer.0 → IsAtPdu max held rest pdu
    → work ≡ hears_pdu now told peer pdu (at_edge edge calls out)
    → HearsOn plan told peer (held ++ more) (rest ++ more) (at_edge edge calls out) work
unfolding at_edge
pdu_kept plan now told peer held rest more pdu kept max edge calls out work same heard others small is there at hears =
    let start : Work = record { edge = edge; calls = calls; effects = out; idle = false } in
    let here : IsAtPdu kept.session.max_pdu held rest pdu = subst (λ (n : ℕ). IsAtPdu n held rest pdu) is at in
    heard_pdu plan told peer held rest more pdu kept start work
    heard others (subst (λ (n : ℕ). n ≤ 4096) is small) (sym there) here.front here.shorter
    (hears ∙ ap (λ (p : Plan). hears_pdu p told peer pdu start) same)

pub pdu_on : (plan now : Plan) (told : Answers) (peer : EdgeId) (held rest more : List ℕ) (pdu : Pdu) (max : ℕ) (edge : EdgeState) (calls : List LinkCall) (out : List Effect) (work : Work) → now ≡ plan
    → AreOctets held → AreOctets more → max ≤ 4096 → Some max ≡ longest_of (edge.peering peer.0) → IsAtPdu max held rest pdu
    → work ≡ hears_pdu now told peer pdu (at_edge edge calls out)
    → HearsOn plan told peer (held ++ more) (rest ++ more) (at_edge edge calls out) work
pdu_on plan now told peer held rest more pdu max edge calls out work same heard others small longest at hears = by (edge.peering peer.0) refl where
  by : (x : Option Peering) → edge.peering peer.0 ≡ x → HearsOn plan told peer (held ++ more) (rest ++ more) (at_edge edge calls out) work
  by None is =
      let none : Some max ≡ None = longest ∙ ap longest_of is in
      absurd (cc (none))
  by (Some kept) is =
      let here : Some max ≡ Some kept.session.max_pdu = longest ∙ ap longest_of is in
      let most : max ≡ kept.session.max_pdu = cc (here) in
      pdu_kept plan now told peer held rest more pdu kept max edge calls out work same heard others small most (sym is) at hears

fault_kept : (plan : Plan) (told : Answers) (peer : EdgeId) (held rest more : List ℕ) (refusal : DecodeFault) (kept : Peering) (max : ℕ) (edge after : EdgeState) (calls new : List LinkCall) (out given : List Effect)
    → AreOctets held → AreOctets more → max ≤ 4096 → max ≡ kept.session.max_pdu → Some kept ≡ edge.peering peer.0 → IsAtFault max held refusal
    → at_edge after new given ≡ happens_with_ends told peer (Refused refusal) (at_edge edge calls out) → after.peering peer.0 ≡ None
    → HearsOn plan told peer (held ++ more) rest (at_edge edge calls out) (at_edge after new given)
unfolding at_edge
fault_kept plan told peer held rest more refusal kept max edge after calls new out given heard others small is there at happened gone =
    let here : IsAtFault kept.session.max_pdu held refusal = subst (λ (n : ℕ). IsAtFault n held refusal) is at in
    heard_fault plan told peer held rest more here.fault refusal kept
    (record { edge = edge; calls = calls; effects = out; idle = false }) (record { edge = after; calls = new; effects = given; idle = false })
    heard others (subst (λ (n : ℕ). n ≤ 4096) is small) (sym there) here.front here.names happened gone

pub fault_on : (plan : Plan) (told : Answers) (peer : EdgeId) (held rest more : List ℕ) (refusal : DecodeFault) (max : ℕ) (edge after : EdgeState) (calls new : List LinkCall) (out given : List Effect)
    → AreOctets held → AreOctets more → max ≤ 4096 → Some max ≡ longest_of (edge.peering peer.0) → IsAtFault max held refusal
    → at_edge after new given ≡ happens_with_ends told peer (Refused refusal) (at_edge edge calls out) → after.peering peer.0 ≡ None
    → HearsOn plan told peer (held ++ more) rest (at_edge edge calls out) (at_edge after new given)
fault_on plan told peer held rest more refusal max edge after calls new out given heard others small longest at happened gone = by (edge.peering peer.0) refl where
  by : (x : Option Peering) → edge.peering peer.0 ≡ x → HearsOn plan told peer (held ++ more) rest (at_edge edge calls out) (at_edge after new given)
  by None is =
      let none : Some max ≡ None = longest ∙ ap longest_of is in
      absurd (cc (none))
  by (Some kept) is =
      let here : Some max ≡ Some kept.session.max_pdu = longest ∙ ap longest_of is in
      let most : max ≡ kept.session.max_pdu = cc (here) in
      fault_kept plan told peer held rest more refusal kept max edge after calls new out given heard others small most (sym is) at happened gone

-- more is wanted where a session stands, and nothing is where none does
pub waits_for : (x : Option Peering) (held : List ℕ) (max : ℕ) → Some max ≡ longest_of x → IsWaiting max held → IsWaitingFor x held
waits_for None held max longest waits = tt
waits_for (Some kept) held max longest waits =
    let most : max ≡ kept.session.max_pdu = cc (longest) in
    subst (λ (n : ℕ). IsWaiting n held) most waits

pub waits_not : (x : Option Peering) (held : List ℕ) → None ≡ longest_of x → IsWaitingFor x held
waits_not None held longest = tt
waits_not (Some kept) held longest = absurd (cc (longest))

pub on_plan : (plan now : Plan) (told : Answers) (peer : EdgeId) (octets rest : List ℕ) (work next : Work) → now ≡ plan → HearsOn now told peer octets rest work next
    → HearsOn plan told peer octets rest work next
on_plan plan now told peer octets rest work next same on = subst (λ (p : Plan). HearsOn p told peer octets rest work next) same on

-- all was heard, and what is left is then held
pub all_held : (c : EdgeLists) (plan : Plan) (told : Answers) (peer : EdgeId) (octets held : List ℕ) (work now : Work) (calls : List LinkCall) (out : List Effect) → has_end (seen c) peer ≡ true
    → IsWaitingFor ((seen c).peering peer.0) held → HearsOn plan told peer octets (held ++ []) work (at_edge (seen c) calls out)
    → now ≡ holds peer held ((seen c).peering peer.0) (at_edge (seen c) calls out)
    → now ≡ hears plan told peer octets work
unfolding at_edge
all_held c plan told peer octets held work now calls out there waits on is = by ((seen c).peering peer.0) refl there waits is where
  by : (x : Option Peering) → (seen c).peering peer.0 ≡ x → is_there x ≡ true → IsWaitingFor x held → now ≡ holds peer held x (at_edge (seen c) calls out) → now ≡ hears plan told peer octets work
  by None at none waits is = absurd (cc (none))
  by (Some kept) at some waits is = is ∙ held_all plan told peer octets held work (at_edge (seen c) calls out) kept at waits on

pub all_ended : (c : EdgeLists) (plan : Plan) (told : Answers) (peer : EdgeId) (octets left : List ℕ) (work : Work) (calls : List LinkCall) (out : List Effect) → has_end (seen c) peer ≡ false
    → HearsOn plan told peer octets left work (at_edge (seen c) calls out)
    → at_edge (seen c) calls out ≡ hears plan told peer octets work
unfolding at_edge
all_ended c plan told peer octets left work calls out gone on = by ((seen c).peering peer.0) refl gone where
  by : (x : Option Peering) → (seen c).peering peer.0 ≡ x → is_there x ≡ false → at_edge (seen c) calls out ≡ hears plan told peer octets work
  by None at none = ended_all plan told peer octets left work (at_edge (seen c) calls out) at on
  by (Some kept) at some = absurd (cc (some))

-- nothing is taken out where no session stands
pub taken_none : (peer : EdgeId) (x : Option Peering) (old mid : EdgeState) → AreTakenOut peer x old mid None → (x ≡ None) × (mid ≡ old)
taken_none peer None old mid none = (refl, none.1)
taken_none peer (Some kept) old mid some = absurd (cc (some.0))

-- what is held is taken out before more is heard: it tells nothing of how more is heard
pub held_heard : (plan : Plan) (told : Answers) (peer : EdgeId) (octets held : List ℕ) (old mid : EdgeState) (calls : List LinkCall) (out : List Effect) (work : Work)
    → AreTakenOut peer (old.peering peer.0) old mid (Some held)
    → work ≡ hears plan told peer (held ++ octets) (at_edge mid calls out) → work ≡ hears_on plan told peer octets (old.peering peer.0) (at_edge old calls out)
unfolding at_edge changes
held_heard plan told peer octets held old mid calls out work taken heard = by (old.peering peer.0) refl taken where
  by : (x : Option Peering) → old.peering peer.0 ≡ x → AreTakenOut peer x old mid (Some held) → work ≡ hears_on plan told peer octets x (at_edge old calls out)
  by None at none = absurd (cc (none.0))
  by (Some kept) at some =
      let start : Work = record { edge = old; calls = calls; effects = out; idle = false } in
      let all : List ℕ = held ++ octets in
      let same : held ≡ kept.held = cc (some.0) in
      heard
      ∙ (ap (λ (e : EdgeState). hears plan told peer all (record { edge = e; calls = calls; effects = out; idle = false })) some.1
      ∙ (sym (ap (hears plan told peer all) (held_is peer [] kept start at))
      ∙ (hears_few_held plan told peer [] (suc (length all)) all start
      ∙ ap (λ (o : List ℕ). hears plan told peer (o ++ octets) start) same)))

-- there is room for octets where a session waits for more
room_in : (x : Option Peering) (held : List ℕ) → is_there x ≡ true → IsWaitingFor x held → length held < 4100
room_in None held there waits = absurd (cc (there))
room_in (Some kept) held there waits = waits.room

pub room_for : (c : EdgeLists) (peer : EdgeId) (held : List ℕ) (stands : Bool) → stands ≡ has_end (seen c) peer → stands ≡ true
    → IsWaitingFor ((seen c).peering peer.0) held → length held < 4100
room_for c peer held stands is there waits = room_in ((seen c).peering peer.0) held (sym is ∙ there) waits

-- ---- ticks

pub tick_next : (told : Answers) (place count : ℕ) (id : EdgeId) (work next whole : Work) → place < count → id.0 ≡ place
    → whole ≡ ticks_sessions told place (count - place) work → next ≡ happens_with_ends told id Ticked work
    → whole ≡ ticks_sessions told (place + 1) (count - (place + 1)) next
tick_next told place count id work next whole within is so_far ticked =
    let left : count - place ≡ suc (count - (place + 1)) = omega arith in
    so_far
    ∙ (ap (λ (n : ℕ). ticks_sessions told place n work) left
    ∙ ap (ticks_sessions told (place + 1) (count - (place + 1))) (sym (ticked ∙ ap (λ (n : ℕ). happens_with_ends told (record { 0 = n }) Ticked work) is)))

-- what holds where a call went well
pub on_two : {A E : Type 0} (P Q R : Type 0) (r : Result A E) → (P → Q → R) → OnOk r P → OnOk r Q → OnOk r R
on_two P Q R (Ok x) more one other = more one other
on_two P Q R (Err stop) more one other = tt
