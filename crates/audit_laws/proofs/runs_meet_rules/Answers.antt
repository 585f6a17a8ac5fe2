use Rattle.audit_laws.proofs.YesLemmas.{runs_meet}
use Rattle.audit_laws.proofs.runs_meet_rules.Goals as goal

pub returns : goal.returns
returns c = runs_meet
