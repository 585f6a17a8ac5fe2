use Rattle.independent_model.proofs.StopLemmas.{calls_end}
use Rattle.independent_model.proofs.laws.calls_end.Goals as goal

pub returns : goal.returns
returns c = calls_end
