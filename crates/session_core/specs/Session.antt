-- What contracts see of a session of any state.
use Rattle.std.specs.Prelude.{ℕ, Option, Some, None}
use Rattle.net_base.specs.declared.trace.state_name.StateName.{StateName}
use Rattle.net_base.specs.declared.trace.state_name.StateName.TheVariants as name
use Rattle.session_core.specs.declared.session.Session.{Session}
use Rattle.session_core.specs.declared.session.Session.TheVariants as session
use Rattle.session_core.specs.Phase.{Phase}
use Rattle.session_core.specs.Phase as phase
use Rattle.session_core.specs.State.{SessionView, Stands, EndedBy, in_phase}

-- a session of any state, or the reason for which it ended
abbrev pub view_of : Session → SessionView
view_of (session.Initialized s) = Stands (in_phase phase.Initialized s)
view_of (session.OpenSent s) = Stands (in_phase phase.OpenSent s)
view_of (session.OpenRec s) = Stands (in_phase phase.OpenRec s)
view_of (session.Operational s) = Stands (in_phase phase.Operational s)
view_of (session.Ended reason) = EndedBy reason

-- the name by which a state is told
abbrev pub phase_name : Phase → StateName
phase_name phase.Initialized = name.Initialized
phase_name phase.OpenSent = name.OpenSent
phase_name phase.OpenRec = name.OpenRec
phase_name phase.Operational = name.Operational

-- the same of a session that may have ended
abbrev pub name_of : SessionView → StateName
name_of (Stands s) = phase_name s.phase
name_of (EndedBy reason) = name.Ended reason

-- the longest PDU in force and the hold time, where the session stands
abbrev pub max_pdu_of : SessionView → Option ℕ
max_pdu_of (Stands s) = Some s.max_pdu
max_pdu_of (EndedBy reason) = None

-- the hold time alone
abbrev pub hold_of : SessionView → Option ℕ
hold_of (Stands s) = Some s.hold
hold_of (EndedBy reason) = None
