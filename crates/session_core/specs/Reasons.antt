-- When a session moves, and when each reason ends it, in words that name no table.
use Rattle.std.specs.Prelude.{◌≡◌, ◌==◌, ◌&&◌, Bool, true, false, not}
use Rattle.ldp_grammar.specs.declared.message.Message.{Message}
use Rattle.ldp_grammar.specs.declared.message.Message.TheVariants.{Notification, Initialization, KeepAlive}
use Rattle.ldp_grammar.specs.declared.session_params.SessionParams.{SessionParams}
use Rattle.net_base.specs.declared.trace.state_name.Reason.{Reason}
use Rattle.net_base.specs.declared.trace.state_name.StateName.{StateName}
use Rattle.session_core.specs.declared.session.Session.{Session}
use Rattle.session_core.specs.declared.peers.Peers.{Peers}
use Rattle.session_core.specs.Parameters.{is_platform}
use Rattle.session_core.specs.Session.{name_of, view_of}
use Rattle.session_core.specs.Phase.{Phase}
use Rattle.session_core.specs.Phase as phase
use Rattle.session_core.specs.State.{EndedBy}
use Rattle.session_core.specs.StatusCodes.{shutdown}

-- the session ended for the reason
abbrev pub HasEnded : Session → Reason → Type 0
HasEnded session why = view_of session ≡ EndedBy why

-- the session is in the state of this name
abbrev pub IsIn : Session → StateName → Type 0
IsIn session name = name_of (view_of session) ≡ name

-- a state expects the message: an Initialization in Initialized at the passive end, and in OpenSent; a KeepAlive in OpenRec;
-- every message once the session is up; and a Notification always
abbrev pub expects : Phase → Bool → Message → Bool
expects state active (Notification id status pw_status fec) = true
expects phase.Operational active message = true
expects phase.Initialized active (Initialization id params) = not active
expects phase.OpenSent active (Initialization id params) = true
expects phase.OpenRec active (KeepAlive id) = true
expects state active message = false

-- the message is an Initialization whose parameters are so
abbrev pub proposes : (SessionParams → Bool) → Message → Bool
proposes test (Initialization id params) = test params
proposes test message = false

-- what is proposed is acceptable: the right version, this end with label space 0 as the receiver, and a KeepAlive Time
abbrev pub is_acceptable : Peers → SessionParams → Bool
is_acceptable peers p = p.version == 1 && (is_platform peers.me p.receiver && not (p.keepalive == 0))

-- another protocol version
abbrev pub has_bad_version : SessionParams → Bool
has_bad_version p = not (p.version == 1)

-- the right version, for another receiver than this end with label space 0
abbrev pub has_bad_receiver : Peers → SessionParams → Bool
has_bad_receiver peers p = p.version == 1 && not (is_platform peers.me p.receiver)

-- version and receiver are right, and the KeepAlive Time is 0
abbrev pub has_zero_time : Peers → SessionParams → Bool
has_zero_time peers p = p.version == 1 && (is_platform peers.me p.receiver && p.keepalive == 0)

-- the message is a KeepAlive
abbrev pub is_keep_alive : Message → Bool
is_keep_alive (KeepAlive id) = true
is_keep_alive message = false

-- the message is a fatal Notification
abbrev pub is_fatal : Message → Bool
is_fatal (Notification id status pw_status fec) = status.fatal
is_fatal message = false

-- the message is a fatal Notification with the data of a shutdown
abbrev pub tells_shutdown : Message → Bool
tells_shutdown (Notification id status pw_status fec) = status.fatal && status.code == shutdown
tells_shutdown message = false

-- the message is a fatal Notification with other data
abbrev pub tells_error : Message → Bool
tells_error (Notification id status pw_status fec) = status.fatal && not (status.code == shutdown)
tells_error message = false
