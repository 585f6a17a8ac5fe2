-- An edge's sessions: what an event makes of one, as the table of a session says (RFC 5036 sections 2.5.3, 2.5.4 and 2.5.6).
use Rattle.std.specs.Prelude.{ℕ, Bool, true, false, Option, Some, None, if◌then◌else◌}
use Rattle.net_base.specs.declared.plan.places.EdgeId.{EdgeId}
use Rattle.net_base.specs.declared.trace.state_name.Reason.{Reason}
use Rattle.net_base.specs.declared.trace.state_name.Reason.TheVariants as reason
use Rattle.net_base.specs.declared.trace.state_name.StateName.TheVariants as name
use Rattle.ldp_grammar.specs.declared.message.Message.{Message}
use Rattle.pw_signalling.specs.Rows.{lost}
use Rattle.session_core.specs.Phase.{Phase}
use Rattle.session_core.specs.Phase as phase
use Rattle.session_core.specs.Session.{phase_name}
use Rattle.session_core.specs.State.{SessionState}
use Rattle.session_core.specs.Table.{SessionEvent, Outcome, Stay, Goes, Ends, outcome_of}
use Rattle.pw_messages.specs.LinkAnswers.{Answers}
use Rattle.edge_model.specs.declared.effect.Effect.TheVariants.{Session, Closed}
use Rattle.edge_model.specs.Put.{Spoken, message_octets_of, put_octets, put_replies}
use Rattle.edge_model.specs.Labels.{keeps_lost}
use Rattle.edge_model.specs.State.{EdgeState, Peering, has_end, with_ends_beside, with_kept, with_peering}
use Rattle.edge_model.specs.Work.{Work, changes, gives, next_answer}

-- the session has ended: it is told, and then that the edge's end of the connection is gone. What was held is given up
abbrev pub ends : EdgeId → Reason → Work → Work
ends peer why work = gives (Closed peer) (gives (Session peer (name.Ended why)) (changes (with_peering peer None) work))

-- the same session in another state
abbrev pub with_session : SessionState → Peering → Peering
with_session session kept = record kept { session = session }

-- the two states have one name
abbrev pub is_same_phase : Phase → Phase → Bool
is_same_phase phase.Initialized phase.Initialized = true
is_same_phase phase.OpenSent phase.OpenSent = true
is_same_phase phase.OpenRec phase.OpenRec = true
is_same_phase phase.Operational phase.Operational = true
is_same_phase old new = false

-- a state that has changed is told
abbrev pub tells_change : EdgeId → Phase → Phase → Work → Work
tells_change peer old new work = if is_same_phase old new then work else gives (Session peer (phase_name new)) work

-- the session went on: its new state is told once everything was put. Where the link did not take a message the session
-- ends at once, and the new state is never told
abbrev pub went_on : EdgeId → Phase → Phase → Spoken → Work
went_on peer old new put = if put.failed then ends peer reason.LinkFault put.work else tells_change peer old new put.work

-- what comes of an event. A session that is ending already keeps its reason, whatever the link takes
abbrev pub comes_of : Answers → EdgeId → Peering → Outcome → Work → Work
comes_of told peer kept Stay work = work
comes_of told peer kept (Goes next replies) work =
    went_on peer kept.session.phase next.phase (put_replies told peer replies (changes (with_peering peer (Some (with_session next kept))) work))
comes_of told peer kept (Ends why replies) work = ends peer why (put_replies told peer replies work).work

-- nothing comes of an event where no session stands
abbrev pub happens_to : Answers → EdgeId → SessionEvent → Option Peering → Work → Work
happens_to told peer event None work = work
happens_to told peer event (Some kept) work = comes_of told peer kept (outcome_of kept.session event) work

-- an event happens to the session with a peer, where it stands
abbrev pub happens : Answers → EdgeId → SessionEvent → Work → Work
happens told peer event work = happens_to told peer event (work.edge.peering peer.0) work

-- where no session with a peer stands, each end beside it is lost, and its label waits for the peer (RFC 5036 section 3.5.1.1)
abbrev pub losing_ends : EdgeId → EdgeState → EdgeState
losing_ends peer edge = with_kept (keeps_lost peer edge.ends edge.places edge.kept) (with_ends_beside peer lost edge)

-- they are lost where the edge's end of the connection is gone
abbrev pub clears_ends : EdgeId → Work → Work
clears_ends peer work = if has_end work.edge peer then work else changes (losing_ends peer) work

-- an event happens to the session with a peer, and its ends are lost where it ends
abbrev pub happens_with_ends : Answers → EdgeId → SessionEvent → Work → Work
happens_with_ends told peer event work = clears_ends peer (happens told peer event work)

-- ---- a message is put apart from the events of the session

-- a message that the link did not take ends the session at once
abbrev pub had_put : EdgeId → Spoken → Work
had_put peer put = if put.failed then ends peer reason.LinkFault put.work else put.work

-- and with it the ends beside the peer are lost
abbrev pub had_said : EdgeId → Spoken → Spoken
had_said peer put = record { work = clears_ends peer (had_put peer put); failed = put.failed }

-- to a peer of which this is kept: the link answers, and a message that it did not take ends the session
abbrev pub says_to : Answers → EdgeId → (ℕ → Message) → Option Peering → Work → Spoken
says_to told peer message None work = record { work = work; failed = false }
says_to told peer message (Some kept) work = had_said peer (put_octets peer (message_octets_of kept message) (next_answer told work) work)

-- a message, with the Message ID that is next, is put to a peer; nothing is where no session with it stands
abbrev pub says : Answers → EdgeId → (ℕ → Message) → Work → Spoken
says told peer message work = says_to told peer message (work.edge.peering peer.0) work
