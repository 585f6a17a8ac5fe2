-- What an edge keeps for a neighbour, and its work for that neighbour.
use Rattle.std.specs.Prelude.{◌≡◌, ℕ, Bool, true, false, List, [], Option, Some, None}
use Rattle.net_base.specs.declared.outside.link_call.LinkCall.{LinkCall}
use Rattle.net_base.specs.declared.plan.edge_plan.EdgePlan.{EdgePlan}
use Rattle.net_base.specs.declared.plan.places.EdgeId.{EdgeId}
use Rattle.net_base.specs.declared.trace.state_name.Reason.{Reason}
use Rattle.net_base.specs.declared.trace.state_name.StateName.{StateName}
use Rattle.net_base.specs.declared.trace.state_name.StateName.TheVariants as name
use Rattle.ldp_grammar.specs.declared.message.Message.{Message}
use Rattle.session_core.specs.declared.peers.Peers.{Peers}
use Rattle.session_core.specs.Phase.{Phase}
use Rattle.session_core.specs.Session.{phase_name}
use Rattle.session_core.specs.State.{SessionState, SessionView, Stands, EndedBy, opened}
use Rattle.session_core.specs.Ticks.{ticks_later}
use Rattle.pw_messages.specs.LinkAnswers.{Answers}
use Rattle.edge_model.specs.Connection.{peers_of}
use Rattle.edge_model.specs.declared.effect.Effect.{Effect}
use Rattle.edge_model.specs.Put.{Spoken, message_octets_of, put_octets}
use Rattle.edge_model.specs.Session.{ends, had_put, went_on}
use Rattle.edge_model.specs.State.{EdgeState, Peering, with_peering}
use Rattle.edge_model.specs.Work.{Work, next_answer}

-- ---- what calls of an edge tell

-- the name of a session's state; where nothing is kept, there is none
abbrev pub session_name : Option Peering → StateName
session_name None = name.NonExistent
session_name (Some kept) = phase_name kept.session.phase

-- the octets that are held
abbrev pub held_octets : Option Peering → List ℕ
held_octets None = []
held_octets (Some kept) = kept.held

-- the two ends of a session, where both edges are in the plan
abbrev pub peers_between : Option EdgePlan → Option EdgePlan → Option Peers
peers_between (Some own) (Some other) = Some (peers_of own other)
peers_between own other = None

-- a connection of which nothing came yet
abbrev pub connection_with : Peers → Peering
connection_with peers = record { session = opened peers; held = []; next_id = 1 }

-- no session stands any more
abbrev pub gone : Option Peering → Option Peering
gone kept = None

-- so many ticks later, at which nothing was to be done
abbrev pub peering_later : ℕ → Peering → Peering
peering_later ticks kept = record kept { session = ticks_later ticks kept.session }

-- ---- a session

-- the session stands between these ends
abbrev pub StandsBetween : Peers → SessionView → Type 0
StandsBetween between (Stands s) = s.peers ≡ between
StandsBetween between (EndedBy why) = ⊥

-- the session stands between these ends, or it ended
abbrev pub IsBetween : Peers → SessionView → Type 0
IsBetween between (Stands s) = s.peers ≡ between
IsBetween between (EndedBy why) = Unit {0}

-- what the session has that stands; what is said of one that ended means nothing
abbrev pub state_of : Peers → SessionView → SessionState
state_of between (Stands s) = s
state_of between (EndedBy why) = opened between

-- ---- work

-- work of an edge that keeps this for a neighbour
unfoldable pub at_peer : EdgeId → Option Peering → EdgeState → List LinkCall → List Effect → Work
at_peer peer kept edge calls effects = record { edge = with_peering peer kept edge; calls = calls; effects = effects; idle = false }

-- work of an edge
unfoldable pub at_edge : EdgeState → List LinkCall → List Effect → Work
at_edge edge calls effects = record { edge = edge; calls = calls; effects = effects; idle = false }

-- no tick has passed since a message was put
abbrev pub having_put : Bool → SessionState → SessionState
having_put true s = record s { silence = 0 }
having_put false s = s

-- why the session ended
abbrev pub ending_reason : SessionView → Option Reason
ending_reason (Stands s) = None
ending_reason (EndedBy why) = Some why

-- the session as it is now, or as it was where it ended
abbrev pub next_state : SessionState → SessionView → SessionState
next_state s (Stands next) = next
next_state s (EndedBy why) = s

-- what becomes of a session that is now like this, once everything was put
abbrev pub settled : EdgeId → Phase → SessionView → Spoken → Work
settled peer old (Stands next) put = went_on peer old next.phase put
settled peer old (EndedBy why) put = ends peer why put.work

-- ---- a message apart from the events of the session

-- a message is put to a peer with which a session stands
abbrev pub put_message_to : Answers → EdgeId → (ℕ → Message) → Option Peering → Work → Spoken
put_message_to told peer message None work = record { work = work; failed = false }
put_message_to told peer message (Some kept) work = put_octets peer (message_octets_of kept message) (next_answer told work) work

-- a message is put, where a session with the peer stands
abbrev pub put_message : Answers → EdgeId → (ℕ → Message) → Work → Spoken
put_message told peer message work = put_message_to told peer message (work.edge.peering peer.0) work

-- a message that the link did not take has ended the session
abbrev pub had_spoken : EdgeId → Spoken → Spoken
had_spoken peer put = record { work = had_put peer put; failed = put.failed }

-- no session is left
abbrev pub is_over : Option Peering → Bool
is_over None = true
is_over (Some kept) = false
