-- The trace whose lines a report has.
use Rattle.std.specs.Prelude.{◌≡◌, ◌<◌, ◌^◌, ℕ, List, length}
use Rattle.std.specs.List.{AllByRecursion}
use Rattle.net_base.specs.declared.plan.Plan.{Plan}
use Rattle.net_base.specs.declared.trace.entry.Entry.{Entry}
use Rattle.report_text.specs.declared.ending.Ending.{Ending}
use Rattle.report_text.specs.declared.ending.Ending.TheVariants.{End, Crowded, TooMuch}
use Rattle.report_text.specs.Report.{report}
use Rattle.event_rows.specs.Rows.{IsToldNumber}
use Rattle.report_text.specs.Named.{IsEntryNamed}

-- a report ends by all events, or by a number at which the run stopped
abbrev pub IsEnding : Ending → Type 0
IsEnding End = Unit {0}
IsEnding (Crowded count) = IsToldNumber count
IsEnding (TooMuch weight) = IsToldNumber weight

-- the entries name places of the plan, and the numbers of the last line are numbers of 64 bits
pub record IsReported (plan : Plan) (trace : List Entry) (ending : Ending) : Type 0 where
  pub named : AllByRecursion (IsEntryNamed plan) trace
  pub few : length trace < 2 ^ 64
  pub ends : IsEnding ending

-- the text is the report of the trace
pub record ReadReport (plan : Plan) (text : List ℕ) (trace : List Entry) : Type 0 where
  pub ending : Ending
  pub reported : IsReported plan trace ending
  pub is : report plan trace ending ≡ text
