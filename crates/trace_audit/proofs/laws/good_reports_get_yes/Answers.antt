use Rattle.trace_audit.proofs.YesLemmas.{good_yes}
use Rattle.trace_audit.proofs.laws.good_reports_get_yes.Goals as goal

pub returns : goal.returns
returns c = good_yes
