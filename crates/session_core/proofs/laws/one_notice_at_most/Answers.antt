use Rattle.session_core.proofs.LawLemmas.{one_notice}
use Rattle.session_core.proofs.laws.one_notice_at_most.Goals as goal

pub returns : goal.returns
returns c = one_notice
