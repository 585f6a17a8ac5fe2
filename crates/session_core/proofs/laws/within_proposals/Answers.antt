use Rattle.session_core.proofs.LawLemmas.{within_proposals}
use Rattle.session_core.proofs.laws.within_proposals.Goals as goal

pub returns : goal.returns
returns c = within_proposals
