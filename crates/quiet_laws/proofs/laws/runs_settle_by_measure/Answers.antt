use Rattle.quiet_laws.proofs.laws.runs_settle_by_measure.Goals as goal
use Rattle.quiet_laws.proofs.SettleLemmas.{runs_settle_by_measure}

pub returns : goal.returns
returns c = runs_settle_by_measure
