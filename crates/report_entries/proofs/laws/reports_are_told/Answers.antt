use Rattle.report_entries.proofs.ToldLemmas.{report_told}
use Rattle.report_entries.proofs.laws.reports_are_told.Goals as goal

pub returns : goal.returns
returns c = report_told
