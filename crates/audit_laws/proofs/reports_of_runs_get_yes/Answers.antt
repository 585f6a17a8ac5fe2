use Rattle.audit_laws.proofs.YesLemmas.{runs_yes}
use Rattle.audit_laws.proofs.reports_of_runs_get_yes.Goals as goal

pub returns : goal.returns
returns c = runs_yes
