-- What `replay` writes of a run.
use Rattle.std.specs.Prelude.{ℕ, List, Option, Some, None}
use Rattle.psn_net.specs.declared.net_stop.NetStop.{NetStop}
use Rattle.psn_net.specs.declared.net_stop.NetStop.TheVariants as stop
use Rattle.psn_net.specs.Lists.{NetLists}
use Rattle.report_text.specs.declared.ending.Ending.{Ending}
use Rattle.report_text.specs.declared.ending.Ending.TheVariants.{End, Crowded, TooMuch}
use Rattle.report_text.specs.Report.{report}

-- how a report of a run ends that a limit stopped, or none. Want of memory stops no run that is reported
abbrev pub ending_by : Option NetStop → Ending
ending_by None = End
ending_by (Some (stop.Crowded count event)) = Crowded count
ending_by (Some (stop.TooMuch weight event)) = TooMuch weight
ending_by (Some stop.NoMemory) = End

-- the report, also of a run that a limit stopped
abbrev pub replay_text : NetLists → Option NetStop → List ℕ
replay_text left reason = report left.plan left.trace (ending_by reason)
