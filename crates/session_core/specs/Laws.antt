-- What holds of the table, and of every run of events.
use Rattle.std.specs.Prelude.{◌≡◌, ◌≤◌, ◌<◌, ◌⊎◌, ℕ, Bool, true, false, not, min, List, [], ◌∷◌, length, None}
use Rattle.std.specs.List.{AllByRecursion}
use Rattle.net_values.specs.declared.addr.Addr.{Addr}
use Rattle.ldp_grammar.specs.declared.message.Message.TheVariants.{Initialization, KeepAlive}
use Rattle.ldp_grammar.specs.declared.session_params.SessionParams.{SessionParams}
use Rattle.net_base.specs.declared.trace.state_name.Reason.{Reason}
use Rattle.net_base.specs.declared.trace.state_name.Reason.TheVariants as reason
use Rattle.session_core.specs.declared.peers.Peers.{Peers}
use Rattle.session_core.specs.declared.reply.Reply.{Reply}
use Rattle.session_core.specs.declared.reply.Reply.TheVariants.{Notice}
use Rattle.session_core.specs.Parameters.{proposal, proposal_refusal}
use Rattle.session_core.specs.Phase.{Phase, is_agreed}
use Rattle.session_core.specs.Phase as phase
use Rattle.session_core.specs.State.{SessionState, SessionView, Stands, EndedBy, IsProper, is_active, opened}
use Rattle.session_core.specs.Table.{SessionEvent, Start, Heard, Received, Refused, Spoke, Ticked, Closed, Goes, Ends, next_of, outcome_of, replies_of, third}

-- the calls that make an event ask for this: a connection closes because it was lost, or because the link did not take a PDU
abbrev pub MayCome : SessionEvent → Type 0
MayCome (Closed why) = (why ≡ reason.Closed) ⊎ (why ≡ reason.LinkFault)
MayCome event = Unit {0}

-- whether a session of the state tells its peer that it ends for the reason: not where the peer ended it or the connection
-- is lost, but a shutdown is answered where the session is up
abbrev pub tells_end : Phase → Reason → Bool
tells_end phase.Operational reason.PeerShutdown = true
tells_end state reason.PeerShutdown = false
tells_end state reason.PeerFatal = false
tells_end state reason.Closed = false
tells_end state reason.LinkFault = false
tells_end state why = true

-- one fatal Notification
abbrev pub IsOneNotice : List Reply → Type 0
IsOneNotice (Notice status ∷ []) = status.fatal ≡ true
IsOneNotice replies = ⊥

-- a session that ends may say so by one fatal Notification, and else puts nothing
abbrev pub IsFarewell : Bool → List Reply → Type 0
IsFarewell true replies = IsOneNotice replies
IsFarewell false replies = replies ≡ []

-- A session that ends puts one fatal Notification, or nothing, as the reason says.
abbrev pub OneNotice : Type 0
OneNotice = (s : SessionState) (event : SessionEvent) (why : Reason) (replies : List Reply) → MayCome event → outcome_of s event ≡ Ends why replies → IsFarewell (tells_end s.phase why) replies

-- a reason by which a message ends a session
abbrev pub is_by_message : Reason → Bool
is_by_message reason.BadVersion = true
is_by_message reason.BadReceiver = true
is_by_message reason.ZeroKeepAlive = true
is_by_message reason.Unexpected = true
is_by_message reason.PeerShutdown = true
is_by_message reason.PeerFatal = true
is_by_message why = false

-- the event is one that the reason names
abbrev pub IsCause : SessionEvent → Reason → Type 0
IsCause Start why = ⊥
IsCause (Heard sender) why = why ≡ reason.BadIdentifier
IsCause (Received message) why = is_by_message why ≡ true
IsCause (Refused fault) why = why ≡ reason.Decode
IsCause Spoke why = ⊥
IsCause Ticked why = why ≡ reason.Expired
IsCause (Closed lost) why = why ≡ lost

-- Each reason comes by its own kind of event: BadIdentifier by a PDU's sender, Decode by octets that are refused, Expired by
-- a tick, Closed and LinkFault by a connection that closes, and the others by a message.
abbrev pub ReasonsByCause : Type 0
ReasonsByCause = (s : SessionState) (event : SessionEvent) (why : Reason) (replies : List Reply) → outcome_of s event ≡ Ends why replies → IsCause event why

-- the event is a KeepAlive
abbrev pub IsKeepAlive : SessionEvent → Type 0
IsKeepAlive (Received (KeepAlive id)) = Unit {0}
IsKeepAlive event = ⊥

-- the event is an Initialization that proposes what is acceptable
abbrev pub IsAcceptable : SessionState → SessionEvent → Type 0
IsAcceptable s (Received (Initialization id params)) = proposal_refusal s.peers params ≡ None
IsAcceptable s event = ⊥

-- A session is up only by a KeepAlive that came in OpenRec, and is in OpenRec only by an acceptable Initialization that came
-- before (RFC 5036 section 2.5.4).
pub record EnteredByMessages : Type 0 where
  pub operational : (s next : SessionState) (event : SessionEvent) (replies : List Reply) → outcome_of s event ≡ Goes next replies → next.phase ≡ phase.Operational
      → (s.phase ≡ phase.Operational) ⊎ ((s.phase ≡ phase.OpenRec) × IsKeepAlive event)
  pub open_rec : (s next : SessionState) (event : SessionEvent) (replies : List Reply) → outcome_of s event ≡ Goes next replies → next.phase ≡ phase.OpenRec
      → (s.phase ≡ phase.OpenRec) ⊎ IsAcceptable s event

-- what events make of a session, one after another, until it ends
abbrev pub run_by : (SessionState → SessionEvent → SessionView) → SessionState → List SessionEvent → SessionView
run_by next s [] = Stands s
run_by next s (event ∷ events) = elim (next s event) [ Stands then_on ↦ run_by next then_on events | EndedBy why ↦ EndedBy why ]

-- what events make of a session that stands
abbrev pub run_session : SessionState → List SessionEvent → SessionView
run_session s events = run_by next_of s events

-- The hold time of a session between these ends is no more than this one proposed, and so is the longest PDU once an
-- Initialization was accepted; a PDU of 256 octets always has room, and one of more than 4096 never; fewer ticks than the own
-- KeepAlive Time have passed since the last PDU was heard.
pub record IsWithinProposal (ends : Peers) (s : SessionState) : Type 0 where
  pub same : s.peers ≡ ends
  pub some : 1 ≤ s.hold
  pub hold : s.hold ≤ ends.keepalive
  pub least : 256 ≤ s.max_pdu
  pub longest : s.max_pdu ≤ 4096
  pub own : is_agreed s.phase ≡ true → s.max_pdu ≤ ends.max_pdu
  pub waiting : s.wait < ends.keepalive

-- Whatever comes, a session keeps within this.
abbrev pub WithinProposals : Type 0
WithinProposals = (ends : Peers) (events : List SessionEvent) (s : SessionState) → IsProper ends → run_session (opened ends) events ≡ Stands s → IsWithinProposal ends s

-- where anything is put, no tick has passed since
abbrev pub spoken : List Reply → SessionView → SessionView
spoken (reply ∷ replies) (Stands s) = Stands (record s { silence = 0 })
spoken replies view = view

-- what an event makes of a session, and what is to be put is put at once
abbrev pub next_put : SessionState → SessionEvent → SessionView
next_put s event = spoken (replies_of (outcome_of s event)) (next_of s event)

-- Where what is to be put is put at once, a session is never silent for a third of its hold time, whatever comes, once an
-- Initialization was accepted (RFC 5036 section 2.5.6).
abbrev pub NeverSilent : Type 0
NeverSilent = (ends : Peers) (events : List SessionEvent) (s : SessionState) → run_by next_put (opened ends) events ≡ Stands s → is_agreed s.phase ≡ true → s.silence < third s.hold

-- the two are ends of one session
pub record IsFacing (one other : Peers) : Type 0 where
  pub there : one.peer ≡ other.me
  pub back : other.peer ≡ one.me

-- an address has four octets
pub record IsAddress (address : Addr) : Type 0 where
  pub four : length address.0 ≡ 4
  pub octets : AllByRecursion (λ octet. octet < 256) address.0

-- a session that is up, with this hold time and this longest PDU
pub record IsUpWith (view : SessionView) (hold max_pdu : ℕ) : Type 0 where
  pub state : SessionState
  pub stands : view ≡ Stands state
  pub up : state.phase ≡ phase.Operational
  pub time : state.hold ≡ hold
  pub longest : state.max_pdu ≡ max_pdu

-- where the event is an Initialization, it proposes this
abbrev pub Proposes : SessionParams → SessionEvent → Type 0
Proposes params (Received (Initialization id given)) = given ≡ params
Proposes params event = Unit {0}

-- the smaller of what two ends propose is in force
pub record IsAgreement (one other : Peers) (s : SessionState) : Type 0 where
  pub time : s.hold ≡ min one.keepalive other.keepalive
  pub longest : s.max_pdu ≡ min one.max_pdu other.max_pdu

-- Of two ends that face each other one is active; each accepts what the other proposes; and whatever events come to an end,
-- if each Initialization among them is the other's, then once one was accepted the hold time and the longest PDU are the
-- smaller of the two that were proposed, so the same at both. The other's Initialization and a KeepAlive bring an end up (RFC
-- 5036 sections 2.5.2 to 2.5.4 and 3.5.3).
pub record EndsAgree : Type 0 where
  pub one_active : (one other : Peers) → IsFacing one other → IsAddress one.me → IsAddress one.peer → IsProper one → is_active other ≡ not (is_active one)
  pub acceptable : (one other : Peers) → IsFacing one other → IsProper one → proposal_refusal other (proposal one) ≡ None
  pub agreed : (one other : Peers) (events : List SessionEvent) (s : SessionState) → IsFacing one other → IsProper one → IsProper other → AllByRecursion (Proposes (proposal other)) events
      → run_session (opened one) events ≡ Stands s → is_agreed s.phase ≡ true → IsAgreement one other s
  pub active_up : (one other : Peers) (first second : ℕ) → IsFacing one other → IsProper one → IsProper other → is_active one ≡ true
      → IsUpWith (run_session (opened one) (Start ∷ Received (Initialization first (proposal other)) ∷ Received (KeepAlive second) ∷ [])) (min one.keepalive other.keepalive) (min one.max_pdu other.max_pdu)
  pub passive_up : (one other : Peers) (first second : ℕ) → IsFacing one other → IsProper one → IsProper other → is_active one ≡ true
      → IsUpWith (run_session (opened other) (Received (Initialization first (proposal one)) ∷ Received (KeepAlive second) ∷ [])) (min one.keepalive other.keepalive) (min one.max_pdu other.max_pdu)
