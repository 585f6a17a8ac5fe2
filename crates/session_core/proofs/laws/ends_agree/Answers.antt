use Rattle.session_core.proofs.LawLemmas.{ends_agree}
use Rattle.session_core.proofs.laws.ends_agree.Goals as goal

pub returns : goal.returns
returns c = ends_agree
