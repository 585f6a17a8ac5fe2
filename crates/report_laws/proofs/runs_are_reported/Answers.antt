use Rattle.report_laws.proofs.ReportLemmas.{run_reported}
use Rattle.report_laws.proofs.runs_are_reported.Goals as goal

pub returns : goal.returns
returns c = run_reported
