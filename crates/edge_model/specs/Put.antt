-- An edge puts messages to a peer, one after another, as long as its link takes them (RFC 5036 section 2.5).
use Rattle.std.specs.Prelude.{ℕ, Bool, true, false, List, [], ◌∷◌, Option, Some, None, option_map}
use Rattle.net_base.specs.declared.plan.places.EdgeId.{EdgeId}
use Rattle.ldp_grammar.specs.declared.message.Message.{Message}
use Rattle.ldp_grammar.specs.Written.{written}
use Rattle.session_core.specs.declared.reply.Reply.{Reply}
use Rattle.session_core.specs.Messages.{message_of}
use Rattle.pw_messages.specs.LinkAnswers.{Answers}
use Rattle.pw_messages.specs.Sender.{following, platform_of}
use Rattle.edge_model.specs.declared.effect.Effect.TheVariants.{Said}
use Rattle.edge_model.specs.State.{EdgeState, Peering, with_peering}
use Rattle.edge_model.specs.Work.{Work, changes, gives, next_answer, puts}

-- an edge that put something: all of it was taken, or one message was not and nothing behind it was put
pub record Spoken : Type 0 where
  pub work : Work
  pub failed : Bool

-- nothing is put
abbrev pub stays : Work → Spoken
stays work = record { work = work; failed = false }

-- a message was put: the next one has the next number, and no tick has passed since
abbrev pub having_spoken : Peering → Peering
having_spoken kept = record kept { session = record kept.session { silence = 0 }; next_id = following kept.next_id }

-- the session with a peer has put a message, where it stands
unfoldable pub with_spoken : EdgeId → EdgeState → EdgeState
with_spoken peer edge = with_peering peer (option_map having_spoken (edge.peering peer.0)) edge

-- octets are put: what the link takes is said
abbrev pub put_octets : EdgeId → List ℕ → Bool → Work → Spoken
put_octets peer bytes true work = record { work = gives (Said peer bytes) (changes (with_spoken peer) (puts peer bytes true work)); failed = false }
put_octets peer bytes false work = record { work = puts peer bytes false work; failed = true }

-- the octets of a reply, in a PDU of its own
abbrev pub octets_of : Peering → Reply → List ℕ
octets_of kept reply = written (message_of reply kept.next_id kept.session.peers) (platform_of kept.session.peers.me)

-- the octets of a message with the next Message ID, in a PDU of its own
abbrev pub message_octets_of : Peering → (ℕ → Message) → List ℕ
message_octets_of kept message = written (message kept.next_id) (platform_of kept.session.peers.me)

-- a reply is put to a peer; nothing is where no session with it stands
abbrev pub put_reply_to : Answers → EdgeId → Reply → Option Peering → Work → Spoken
put_reply_to told peer reply None work = record { work = work; failed = true }
put_reply_to told peer reply (Some kept) work = put_octets peer (octets_of kept reply) (next_answer told work) work

abbrev pub put_reply : Answers → EdgeId → Reply → Work → Spoken
put_reply told peer reply work = put_reply_to told peer reply (work.edge.peering peer.0) work

-- more is put where nothing failed
abbrev pub puts_on : (Work → Spoken) → Bool → Work → Spoken
puts_on more true work = record { work = work; failed = true }
puts_on more false work = more work

-- replies are put in order
abbrev pub put_replies : Answers → EdgeId → List Reply → Work → Spoken
put_replies told peer [] work = record { work = work; failed = false }
put_replies told peer (reply ∷ replies) work =
    puts_on (put_replies told peer replies) (put_reply told peer reply work).failed (put_reply told peer reply work).work
