use Rattle.audit_laws.proofs.YesLemmas.{runs_told}
use Rattle.audit_laws.proofs.reports_of_runs_tell_them.Goals as goal

pub returns : goal.returns
returns c = runs_told
