-- What is known of a report, entry by entry.
use Rattle.std.specs.Prelude.{◌≡◌, ◌<◌, ◌+◌, ◌^◌, ◌++◌, [], ℕ, List, None, length}
use Rattle.net_base.specs.declared.plan.Plan.{Plan}
use Rattle.net_base.specs.declared.trace.entry.Entry.{Entry}
use Rattle.window_audit.specs.During.{AreKept, AreTold, with_event}
use Rattle.window_audit.specs.Exits.{HasExits}
use Rattle.window_audit.specs.WindowState.{HasWindows, IsWindowStateOf}
use Rattle.window_audit.specs.Sources.{HasSources}
use Rattle.window_audit.specs.declared.windows.Windows.{Windows}

-- so many entries were told
abbrev pub told_count : Windows → ℕ
told_count windows = windows.known.place + windows.during.count

-- they were begun for the plan; what is kept of the last event is placed in it; few enough entries were told to be counted
pub record AreOf (plan : Plan) (windows : Windows) : Type 0 where
  pub known : IsWindowStateOf plan windows.known
  pub kept : AreKept plan windows.during
  pub few : told_count windows < 2 ^ 63

-- these entries were told: what is known behind the events that are over, what the last event and the entries behind it told, and where
-- frames came from and left
pub record HasHeard (plan : Plan) (trace : List Entry) (windows : Windows) : Type 0 where
  pub done : List Entry
  pub rest : List Entry
  pub is : trace ≡ done ++ with_event windows.during.event rest
  pub place : windows.known.place ≡ length done
  pub none : windows.during.event ≡ None → done ≡ []
  pub known : HasWindows plan done windows.known
  pub told : AreTold rest windows.during
  pub sources : HasSources plan windows.sources trace
  pub exits : HasExits windows.exits trace

-- the last event is over
pub record HasPassed (plan : Plan) (trace : List Entry) (windows : Windows) : Type 0 where
  pub place : windows.known.place ≡ length trace
  pub known : HasWindows plan trace windows.known
  pub sources : HasSources plan windows.sources trace
  pub exits : HasExits windows.exits trace
