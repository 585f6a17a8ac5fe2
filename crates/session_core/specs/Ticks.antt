-- Ticks at which a session has nothing to do (RFC 5036 section 2.5.6).
use Rattle.std.specs.Prelude.{◌+◌, ◌-◌, ◌^◌, ℕ, zero, suc, min, if◌then◌else◌}
use Rattle.session_core.specs.Phase.{is_agreed}
use Rattle.session_core.specs.State.{SessionState, SessionView, Stands, EndedBy}
use Rattle.session_core.specs.Table.{a_tick_later, third}

-- so many ticks later
abbrev pub ticks_later : ℕ → SessionState → SessionState
ticks_later zero s = s
ticks_later (suc n) s = a_tick_later (ticks_later n s)

-- the same of a session of any state: one that ended stays as it is
abbrev pub view_later : ℕ → SessionView → SessionView
view_later n (Stands s) = Stands (ticks_later n s)
view_later n (EndedBy why) = EndedBy why

-- how many ticks pass before one at which nothing was heard for the hold time, or put for a third of it
abbrev pub quiet_ticks : SessionState → ℕ
quiet_ticks s = if is_agreed s.phase then min (s.hold - (s.wait + 1)) (third s.hold - (s.silence + 1)) else s.hold - (s.wait + 1)

-- the same of a session of any state: one that ended has nothing to do at any
abbrev pub quiet_of : SessionView → ℕ
quiet_of (Stands s) = quiet_ticks s
quiet_of (EndedBy why) = 2 ^ 64 - 1
