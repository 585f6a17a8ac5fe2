-- The table of a session (RFC 5036 sections 2.5.4 and 2.5.6): from its state and what happens to what comes of it.
use Rattle.std.specs.Prelude.{◌+◌, ◌-◌, ◌^◌, ◌/◌, ◌==◌, ◌&&◌, ℕ, Bool, true, false, not, min, max, nat_le, List, [], ◌∷◌, Option, Some, None, if◌then◌else◌}
use Rattle.net_base.specs.declared.trace.state_name.Reason.{Reason}
use Rattle.net_base.specs.declared.trace.state_name.Reason.TheVariants as reason
use Rattle.ldp_codec.specs.declared.decode_fault.DecodeFault.{DecodeFault}
use Rattle.ldp_grammar.specs.declared.ldp_id.LdpId.{LdpId}
use Rattle.ldp_grammar.specs.declared.message.Message.{Message}
use Rattle.ldp_grammar.specs.declared.message.Message.TheVariants.{Notification, Initialization, KeepAlive}
use Rattle.ldp_grammar.specs.declared.session_params.SessionParams.{SessionParams}
use Rattle.ldp_grammar.specs.declared.status_code.StatusCode.{StatusCode}
use Rattle.session_core.specs.declared.refusal.Refusal.{Refusal}
use Rattle.session_core.specs.declared.refusal.Refusal.TheVariants as refusal
use Rattle.session_core.specs.declared.reply.Reply.{Reply}
use Rattle.session_core.specs.declared.reply.Reply.TheVariants as reply
use Rattle.session_core.specs.Phase.{Phase, is_agreed}
use Rattle.session_core.specs.Phase as phase
use Rattle.session_core.specs.declared.standing.Standing.{Standing}
use Rattle.session_core.specs.State.{SessionState, SessionView, Stands, EndedBy, in_phase, is_active}
use Rattle.session_core.specs.StatusCodes.{about, about_none, data_of, bad_ldp_identifier, bad_protocol_version, shutdown, no_hello, keep_alive_timer_expired, bad_keep_alive_time}
use Rattle.session_core.specs.Parameters.{is_platform, proposal_refusal, refusal_reason, agreed}

-- what happens to a session that stands: its active end starts it; a PDU of a sender came; a message of it is processed; the
-- octets that came are no PDU; something was put to the peer; a tick passed; the connection closed
pub data SessionEvent : Type 0 where
  Start : SessionEvent
  Heard : LdpId → SessionEvent
  Received : Message → SessionEvent
  Refused : DecodeFault → SessionEvent
  Spoke : SessionEvent
  Ticked : SessionEvent
  Closed : Reason → SessionEvent

-- what comes of it: nothing; the session goes on like this, and these are put in order; or it ends, once these are put
pub data Outcome : Type 0 where
  Stay : Outcome
  Goes : SessionState → List Reply → Outcome
  Ends : Reason → List Reply → Outcome

-- the same in another state
abbrev pub enters_phase : Phase → SessionState → SessionState
enters_phase state s = record s { phase = state }

-- the status data that refuses a proposal
abbrev pub data_refusing : Refusal → ℕ
data_refusing refusal.Version = bad_protocol_version
data_refusing refusal.Receiver = no_hello
data_refusing refusal.KeepAliveTime = bad_keep_alive_time

-- a proposal in a message: it is accepted with these replies, or refused for the reason
abbrev pub judged : Option Refusal → SessionState → Message → SessionParams → List Reply → Outcome
judged None s message params replies = Goes (agreed s params) replies
judged (Some why) s message params replies = Ends (refusal_reason why) (about message (data_refusing why) ∷ [])

-- the proposal of an Initialization
abbrev pub proposed : SessionState → ℕ → SessionParams → List Reply → Outcome
proposed s id params replies = judged (proposal_refusal s.peers params) s (Initialization id params) params replies

-- why a Notification ends a session: a shutdown, or another fatal error; one that is not fatal ends none (RFC 5036 section
-- 3.5.1.1)
abbrev pub reason_in : StatusCode → Option Reason
reason_in status =
    if not status.fatal then None
    else if status.code == shutdown then Some reason.PeerShutdown
    else Some reason.PeerFatal

-- a shutdown is answered where the session is up
abbrev pub farewell : Phase → Reason → Message → List Reply
farewell phase.Operational reason.PeerShutdown message = about message shutdown ∷ []
farewell state why message = []

-- a Notification ends the session for this reason, or none
abbrev pub notified : Option Reason → SessionState → Message → Outcome
notified None s message = Stay
notified (Some why) s message = Ends why (farewell s.phase why message)

-- a PDU of a sender: it is the peer with the platform's label space (RFC 5036 section 3.5.1.2.1)
abbrev pub heard_sender : LdpId → SessionState → Outcome
heard_sender sender s =
    if is_platform s.peers.peer sender then Goes (record s { wait = 0 }) []
    else Ends reason.BadIdentifier (about_none bad_ldp_identifier ∷ [])

-- a count of ticks, one more; it stays at 2^64 - 1
unfoldable pub one_more : ℕ → ℕ
one_more n = min (n + 1) (2 ^ 64 - 1)

-- a tick more since the last PDU was heard, and since the last one was put
abbrev pub a_tick_later : SessionState → SessionState
a_tick_later s = record s { wait = s.wait + 1; silence = one_more s.silence }

-- a third of the hold time, and at least one tick: after it something is to be put
abbrev pub third : ℕ → ℕ
third hold = max 1 (hold / 3)

-- nothing was heard for the hold time
abbrev pub is_expired : SessionState → Bool
is_expired s = nat_le s.hold s.wait

-- it is time for a KeepAlive: nothing was put for a third of the hold time
abbrev pub is_keep_alive_due : SessionState → Bool
is_keep_alive_due s = is_agreed s.phase && nat_le (third s.hold) s.silence

-- a tick passed, and the session is as it is now
abbrev pub ticked_session : SessionState → Outcome
ticked_session s =
    if is_expired s then Ends reason.Expired (about_none keep_alive_timer_expired ∷ [])
    else Goes s (if is_keep_alive_due s then reply.KeepAlive ∷ [] else [])

-- The table: the state, the event, and whether this end is the active one. The first row that fits counts.
abbrev pub table : Phase → SessionEvent → Bool → SessionState → Outcome
table phase.Initialized Start true s = Goes (enters_phase phase.OpenSent s) (reply.Init ∷ [])
table phase.Initialized (Received (Initialization id params)) false s = proposed s id params (reply.Init ∷ reply.KeepAlive ∷ [])
table phase.OpenSent (Received (Initialization id params)) active s = proposed s id params (reply.KeepAlive ∷ [])
table phase.OpenRec (Received (KeepAlive id)) active s = Goes (enters_phase phase.Operational s) []
table state (Received (Notification id status pw_status fec)) active s = notified (reason_in status) s (Notification id status pw_status fec)
table phase.Operational (Received message) active s = Stay
table state (Received message) active s = Ends reason.Unexpected (about message shutdown ∷ [])
table state (Heard sender) active s = heard_sender sender s
table state (Refused fault) active s = Ends reason.Decode (about_none (data_of fault) ∷ [])
table state Spoke active s = Goes (record s { silence = 0 }) []
table state Ticked active s = ticked_session (a_tick_later s)
table state (Closed why) active s = Ends why []
table state Start active s = Stay

-- what comes of an event
abbrev pub outcome_of : SessionState → SessionEvent → Outcome
outcome_of s event = table s.phase event (is_active s.peers) s

-- the session after it
abbrev pub view_after : SessionState → Outcome → SessionView
view_after s Stay = Stands s
view_after s (Goes next replies) = Stands next
view_after s (Ends why replies) = EndedBy why

-- what is put
abbrev pub replies_of : Outcome → List Reply
replies_of Stay = []
replies_of (Goes next replies) = replies
replies_of (Ends why replies) = replies

-- what an event makes of a session
abbrev pub next_of : SessionState → SessionEvent → SessionView
next_of s event = view_after s (outcome_of s event)

-- the session after an event, and what is put, for a session of a state that has this
abbrev pub after : Phase → Standing → SessionEvent → SessionView
after state s event = next_of (in_phase state s) event

-- what a session in this state puts on an event
abbrev pub said_replies : Phase → Standing → SessionEvent → List Reply
said_replies state s event = replies_of (outcome_of (in_phase state s) event)

-- the same of a session of any state: one that ended stays as it is, and puts nothing
abbrev pub view_next : SessionView → SessionEvent → SessionView
view_next (Stands s) event = next_of s event
view_next (EndedBy why) event = EndedBy why

-- what a session puts on an event; one that has ended puts nothing
abbrev pub view_said : SessionView → SessionEvent → List Reply
view_said (Stands s) event = replies_of (outcome_of s event)
view_said (EndedBy why) event = []
