use Rattle.session_core.proofs.LawLemmas.{never_silent}
use Rattle.session_core.proofs.laws.never_silent.Goals as goal

pub returns : goal.returns
returns c = never_silent
