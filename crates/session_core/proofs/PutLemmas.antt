-- What a session puts can be written, and is short.
use Rattle.std.proofs.Common.{◌≡◌, ◌≤◌, ◌+◌, ℕ, true, List, [], ◌∷◌, length, Option, Some, None, refl, arith}
use Rattle.std.proofs.lemmas.Grind.{common_steps}
use Rattle.std.specs.List.{AllByRecursion}
use Rattle.ldp_grammar.specs.declared.message.Message.{Message}
use Rattle.ldp_grammar.specs.declared.message.Message.TheVariants.{Notification, Initialization, KeepAlive}
use Rattle.ldp_grammar.specs.declared.session_params.SessionParams.{SessionParams}
use Rattle.ldp_grammar.specs.declared.ldp_id.LdpId.{LdpId}
use Rattle.ldp_grammar.specs.Written.{message_octets, writable, written}
use Rattle.ldp_grammar.proofs.OctetLemmas.{AreOctets}
use Rattle.ldp_grammar.proofs.WrittenOctets.{written_are, session_are, status_are}
use Rattle.net_base.specs.declared.trace.state_name.Reason.{Reason}
use Rattle.session_core.specs.declared.peers.Peers.{Peers}
use Rattle.session_core.specs.declared.refusal.Refusal.{Refusal}
use Rattle.session_core.specs.declared.refusal.Refusal.TheVariants as refusal
use Rattle.session_core.specs.declared.reply.Reply.{Reply}
use Rattle.session_core.specs.declared.reply.Reply.TheVariants as reply
use Rattle.session_core.specs.Messages.{HasData, RepliesArePut, message_of}
use Rattle.session_core.specs.Parameters.{proposal, proposal_refusal}
use Rattle.session_core.specs.State.{SessionState}
use Rattle.session_core.specs.Table.{SessionEvent, Start, Heard, Received, Refused, Spoke, Ticked, Closed, outcome_of, replies_of, judged, notified, reason_in}

-- a proposal that is refused
judged_data : (given : Option Refusal) (s : SessionState) (message : Message) (params : SessionParams) (others : List Reply) → AllByRecursion HasData others
    → AllByRecursion HasData (replies_of (judged given s message params others))
judged_data None s message params others all = all
judged_data (Some refusal.Version) s message params others all = (omega arith, tt)
judged_data (Some refusal.Receiver) s message params others all = (omega arith, tt)
judged_data (Some refusal.KeepAliveTime) s message params others all = (omega arith, tt)

-- a Notification
notified_data : (why : Option Reason) (s : SessionState) (message : Message) → AllByRecursion HasData (replies_of (notified why s message))
notified_data None s message = tt
notified_data (Some why) s message = grind (arith)

received : (s : SessionState) (message : Message) → AllByRecursion HasData (replies_of (outcome_of s (Received message)))
received s (Notification id status pw_status fec) = grind (arith, notified_data (reason_in status) s (Notification id status pw_status fec))
received s (Initialization id params) =
    grind (
      arith,
      judged_data (proposal_refusal s.peers params) s (Initialization id params) params (reply.Init ∷ reply.KeepAlive ∷ []),
      judged_data (proposal_refusal s.peers params) s (Initialization id params) params (reply.KeepAlive ∷ []),
    )
received s (KeepAlive id) = grind (arith)
received s message = grind (arith)

has_data : (s : SessionState) (event : SessionEvent) → AllByRecursion HasData (replies_of (outcome_of s event))
has_data s Start = grind (arith)
has_data s (Heard sender) = grind (arith)
has_data s (Received message) = received s message
has_data s (Refused wrong) = grind (arith)
has_data s Spoke = grind (arith)
has_data s Ticked = grind (arith)
has_data s (Closed why) = grind (arith)

can_write : (reply : Reply) (id : ℕ) (peers : Peers) → HasData reply → writable (message_of reply id peers) ≡ true
can_write reply.Init id peers holds = refl
can_write reply.KeepAlive id peers holds = refl
can_write (reply.Notice status) id peers holds = grind (arith)

-- the octets of a proposal, of which four are those of the receiver's address
proposal_length : (id : ℕ) (peers : Peers) → length peers.peer.0 ≡ 4 → length (message_octets (message_of reply.Init id peers)) ≡ 26
proposal_length id peers four = grind (arith, common_steps, four)

short : (reply : Reply) (id : ℕ) (peers : Peers) → length peers.peer.0 ≡ 4 → 6 + length (message_octets (message_of reply id peers)) ≤ 256
short reply.Init id peers four = omega (arith, proposal_length id peers four)
short reply.KeepAlive id peers four = omega arith
short (reply.Notice status) id peers four = omega arith

octets : (reply : Reply) (id : ℕ) (peers : Peers) (sender : LdpId) → AreOctets peers.peer.0 → AreOctets sender.router.0 → AreOctets (written (message_of reply id peers) sender)
octets reply.Init id peers sender peer router = written_are (message_of reply.Init id peers) sender (session_are (proposal peers) (omega arith) (omega arith) peer, tt) router
octets reply.KeepAlive id peers sender peer router = written_are (message_of reply.KeepAlive id peers) sender tt router
octets (reply.Notice status) id peers sender peer router = written_are (message_of (reply.Notice status) id peers) sender (status_are status, tt) router

pub replies_are_put : RepliesArePut
replies_are_put = record { has_data = has_data; writable = can_write; short = short; octets = octets }
