use Rattle.report_laws.proofs.RunLemmas.{runs_tell}
use Rattle.report_laws.proofs.runs_tell_of_plan.Goals as goal

pub returns : goal.returns
returns c = runs_tell
