-- The messages that a session puts.
use Rattle.std.specs.Prelude.{◌≡◌, ◌<◌, ◌≤◌, ◌+◌, ◌^◌, ℕ, true, length, None}
use Rattle.std.specs.List.{AllByRecursion}
use Rattle.ldp_grammar.specs.declared.ldp_id.LdpId.{LdpId}
use Rattle.ldp_grammar.specs.declared.message.Message.{Message}
use Rattle.ldp_grammar.specs.declared.message.Message.TheVariants.{Notification, Initialization, KeepAlive}
use Rattle.net_values.specs.Octets.{AreOctets}
use Rattle.ldp_grammar.specs.Written.{message_octets, written, writable as can_write}
use Rattle.session_core.specs.declared.peers.Peers.{Peers}
use Rattle.session_core.specs.declared.reply.Reply.{Reply}
use Rattle.session_core.specs.declared.reply.Reply.TheVariants.{Init, KeepAlive as Alive, Notice}
use Rattle.session_core.specs.Parameters.{proposal}
use Rattle.session_core.specs.State.{SessionState}
use Rattle.session_core.specs.Table.{SessionEvent, outcome_of, replies_of}

-- a reply as a message with this Message ID, between these ends
abbrev pub message_of : Reply → ℕ → Peers → Message
message_of Init id peers = Initialization id (proposal peers)
message_of Alive id peers = KeepAlive id
message_of (Notice status) id peers = Notification id status None None

-- status data has 30 bits (RFC 5036 section 3.4.6)
abbrev pub HasData : Reply → Type 0
HasData (Notice status) = status.code < 2 ^ 30
HasData reply = Unit {0}

-- Whatever an event has an end put can be written, and the PDU Length of a PDU with it alone is at most 256, which every
-- maximum of a session allows (RFC 5036 section 3.5.3).
pub record RepliesArePut : Type 0 where
  pub has_data : (s : SessionState) (event : SessionEvent) → AllByRecursion HasData (replies_of (outcome_of s event))
  pub writable : (reply : Reply) (id : ℕ) (peers : Peers) → HasData reply → can_write (message_of reply id peers) ≡ true
  pub short : (reply : Reply) (id : ℕ) (peers : Peers) → length peers.peer.0 ≡ 4 → 6 + length (message_octets (message_of reply id peers)) ≤ 256
  -- what is written of it are octets, where the addresses are
  pub octets : (reply : Reply) (id : ℕ) (peers : Peers) (sender : LdpId) → AreOctets peers.peer.0 → AreOctets sender.router.0 → AreOctets (written (message_of reply id peers) sender)
