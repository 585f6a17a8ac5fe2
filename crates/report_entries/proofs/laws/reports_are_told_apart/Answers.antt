use Rattle.report_entries.proofs.ToldLemmas.{told_apart}
use Rattle.report_entries.proofs.laws.reports_are_told_apart.Goals as goal

pub returns : goal.returns
returns c = told_apart
