-- An edge hears octets of LDP: one PDU after another, each within the maximum that the session then has (RFC 5036 section
-- 3.5.3), and each message of a PDU in turn. Where the session ends, the rest is given up.
use Rattle.std.specs.Prelude.{◌==◌, ◌++◌, ℕ, Bool, true, false, zero, suc, length, List, [], ◌∷◌, Option, Some, None, if◌then◌else◌}
use Rattle.net_base.specs.declared.plan.Plan.{Plan}
use Rattle.net_base.specs.declared.plan.places.EdgeId.{EdgeId}
use Rattle.ldp_grammar.specs.declared.message.Message.{Message}
use Rattle.ldp_grammar.specs.declared.message.Message.TheVariants.{Notification, AddressWithdraw, LabelMapping, LabelWithdraw, LabelRelease, Other, Unprocessed}
use Rattle.ldp_grammar.specs.declared.message_kind.MessageKind.TheVariants as kind
use Rattle.ldp_grammar.specs.declared.why.Why.{Why}
use Rattle.ldp_grammar.specs.declared.why.Why.TheVariants.{UnknownTlv, Missing, UnknownFec}
use Rattle.ldp_grammar.specs.declared.pdu.Pdu.{Pdu}
use Rattle.ldp_grammar.specs.Rows.{type_of}
use Rattle.ldp_grammar.specs.Written.{id_of, written_type}
use Rattle.ldp_codec.specs.Decoded.{refusal_of}
use Rattle.ldp_stream.specs.FrontOf.{Front, More, Got, Bad, front_of}
use Rattle.session_core.specs.declared.reply.Reply.{Reply}
use Rattle.session_core.specs.declared.reply.Reply.TheVariants.{Notice}
use Rattle.session_core.specs.Phase.{Phase}
use Rattle.session_core.specs.Phase as phase
use Rattle.session_core.specs.Table.{Heard, Received, Refused}
use Rattle.pw_messages.specs.LinkAnswers.{Answers}
use Rattle.edge_model.specs.Clear.{hears_mac_withdraw}
use Rattle.edge_model.specs.Mend.{mends}
use Rattle.edge_model.specs.Put.{put_reply}
use Rattle.edge_model.specs.Session.{had_said, happens_with_ends}
use Rattle.edge_model.specs.Signal.{hears_mapping, hears_release, hears_status, hears_withdraw}
use Rattle.edge_model.specs.State.{Peering, has_end, with_peering}
use Rattle.edge_model.specs.Work.{Work, changes, idles}

-- ---- a message in a session that is up

-- the status data of an advisory (RFC 5036 sections 3.4.6, 3.5.1.2.1, 3.5.1.2.2 and 3.9)
abbrev pub unknown_message_type : ℕ
unknown_message_type = 0x04

abbrev pub unknown_tlv : ℕ
unknown_tlv = 0x06

abbrev pub missing_parameters : ℕ
missing_parameters = 0x16

abbrev pub unknown_fec : ℕ
unknown_fec = 0x0c

-- the status data for why a message is not processed
abbrev pub data_for : Why → ℕ
data_for (UnknownTlv number) = unknown_tlv
data_for (Missing field) = missing_parameters
data_for (UnknownFec octet) = unknown_fec

-- an advisory Notification about a message
abbrev pub advisory : Message → ℕ → Reply
advisory message code = Notice (record { fatal = false; forward = false; code = code; message = id_of message; kind = written_type message })

-- what is told of a message that is not processed: of one of an unknown type, where it says so by U = 0, and of one that
-- lacks something or has something unknown, unless it is itself a Notification
abbrev pub advice_of : Message → Option Reply
advice_of (Other id false number) = Some (advisory (Other id false number) unknown_message_type)
advice_of (Unprocessed id number why) =
    if number == type_of kind.Notification then None else Some (advisory (Unprocessed id number why) (data_for why))
advice_of message = None

-- the advice on a message is put, where there is one
abbrev pub advises : Answers → EdgeId → Option Reply → Work → Work
advises told peer None work = work
advises told peer (Some reply) work = (had_said peer (put_reply told peer reply work)).work

-- what an edge does on a message, one definition each
abbrev pub acts_on : Plan → Answers → EdgeId → Message → Work → Work
acts_on plan told peer (LabelMapping id fec label status points) work = hears_mapping plan told peer fec label status points work
acts_on plan told peer (LabelWithdraw id fec label) work = hears_withdraw plan told peer fec label work
acts_on plan told peer (LabelRelease id fec label) work = hears_release plan peer fec label work
acts_on plan told peer (Notification id code status fec) work = hears_status plan peer code status fec work
acts_on plan told peer (AddressWithdraw id addresses fec macs) work = hears_mac_withdraw plan told peer fec macs work
acts_on plan told peer message work = advises told peer (advice_of message) work

-- a session that was up, and still is, acts on a message
abbrev pub acts : Plan → Answers → EdgeId → Message → Bool → Work → Work
acts plan told peer message false work = work
acts plan told peer message true work = if has_end work.edge peer then acts_on plan told peer message work else work

-- the state in which a session is up (RFC 5036 section 2.5.4)
abbrev pub is_up_phase : Phase → Bool
is_up_phase phase.Operational = true
is_up_phase state = false

-- the session with a neighbour is up, by what is kept of it
abbrev pub was_up : Option Peering → Bool
was_up None = false
was_up (Some kept) = is_up_phase kept.session.phase

-- what a message makes of the session, and what the edge then does
abbrev pub hears_one : Plan → Answers → EdgeId → Message → Work → Work
hears_one plan told peer message work = acts plan told peer message (was_up (work.edge.peering peer.0)) (happens_with_ends told peer (Received message) work)

-- a message is heard, and the edge mends its ends; after the end of the session none is
abbrev pub hears_message : Plan → Answers → EdgeId → Message → Work → Work
hears_message plan told peer message work = if has_end work.edge peer then mends plan told (hears_one plan told peer message work) else work

-- one message after another
abbrev pub hears_messages : Plan → Answers → EdgeId → List Message → Work → Work
hears_messages plan told peer [] work = work
hears_messages plan told peer (message ∷ messages) work = hears_messages plan told peer messages (hears_message plan told peer message work)

-- a PDU is heard: its sender, and then its messages
abbrev pub hears_pdu : Plan → Answers → EdgeId → Pdu → Work → Work
hears_pdu plan told peer pdu work = hears_messages plan told peer pdu.messages (happens_with_ends told peer (Heard pdu.id) work)

-- ---- octets

-- octets that are no whole PDU yet are held
abbrev pub holds : EdgeId → List ℕ → Option Peering → Work → Work
holds peer octets None work = work
holds peer octets (Some kept) work = changes (with_peering peer (Some (record kept { held = octets }))) work

-- what stands in front of octets is heard, and the octets behind a PDU go on
abbrev pub hears_front : Plan → Answers → EdgeId → (List ℕ → Work → Work) → Peering → List ℕ → Front → Work → Work
hears_front plan told peer on kept octets More work = holds peer octets (Some kept) work
hears_front plan told peer on kept octets (Got pdu rest) work = on rest (hears_pdu plan told peer pdu work)
hears_front plan told peer on kept octets (Bad fault) work = happens_with_ends told peer (Refused (refusal_of fault)) work

-- by what is kept of the peer: its session has the longest PDU; without a session nothing is heard
abbrev pub hears_within : Plan → Answers → EdgeId → (List ℕ → Work → Work) → List ℕ → Option Peering → Work → Work
hears_within plan told peer on octets None work = work
hears_within plan told peer on octets (Some kept) work = hears_front plan told peer on kept octets (front_of kept.session.max_pdu octets) work

-- so many PDUs at most
abbrev pub hears_few : Plan → Answers → EdgeId → ℕ → List ℕ → Work → Work
hears_few plan told peer zero octets work = holds peer octets (work.edge.peering peer.0) work
hears_few plan told peer (suc n) octets work = hears_within plan told peer (hears_few plan told peer n) octets (work.edge.peering peer.0) work

-- all of them: a PDU has octets, so there are no more PDUs than octets
abbrev pub hears : Plan → Answers → EdgeId → List ℕ → Work → Work
hears plan told peer octets work = hears_few plan told peer (suc (length octets)) octets work

-- octets are heard behind those that are held; nothing is where the session ended
abbrev pub hears_on : Plan → Answers → EdgeId → List ℕ → Option Peering → Work → Work
hears_on plan told peer octets None work = work
hears_on plan told peer octets (Some kept) work = hears plan told peer (kept.held ++ octets) work

-- the input `Octets`: it applies where the edge's end of the connection stands. The edge mends its ends after each message, so that
-- the next one meets ends that tell what they should, and once more when all is heard: a PDU of another sender, or with a fault in
-- front, ends the session between messages
abbrev pub octets_input : Plan → Answers → EdgeId → List ℕ → Option Peering → Work → Work
octets_input plan told peer octets None work = idles work
octets_input plan told peer octets (Some kept) work = mends plan told (hears_on plan told peer octets (Some kept) work)
