-- A run of a checked plan meets the rules, and its report gets a yes.
use Rattle.network_model.specs.Run.{run}
use Rattle.network_model.proofs.SplitLemmas.{run_split}
use Rattle.packet_laws.proofs.RunLemmas.{runs_are_isolated}
use Rattle.seen_laws.proofs.SourceLemmas.{runs_seen_once}
use Rattle.report_entries.proofs.ToldLemmas.{report_told}
use Rattle.trace_audit.proofs.YesLemmas.{good_yes}
use Rattle.audit_laws.specs.Laws.{ReportsOfRunsGetYes, ReportsOfRunsTellThem, RunsMeetRules}

pub runs_told : ReportsOfRunsTellThem
runs_told plan events text is names report = report_told plan text (run plan events).entries is.checked names report

pub runs_meet : RunsMeetRules
runs_meet plan events is = record { isolated = runs_are_isolated plan events is; split = run_split plan events is.checked; once = runs_seen_once plan events is }

pub runs_yes : ReportsOfRunsGetYes
runs_yes plan events text answer is names report audited =
    good_yes plan text answer (record { trace = (run plan events).entries; told = runs_told plan events text is names report; is = runs_meet plan events is }) audited
