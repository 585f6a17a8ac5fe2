use Rattle.pw_status.proofs.StatusLemmas.{combined_again}
use Rattle.pw_status.proofs.laws.combined_again.Goals as goal

pub returns : goal.returns
returns c = combined_again
