use Rattle.session_core.proofs.PutLemmas.{replies_are_put}
use Rattle.session_core.proofs.laws.replies_are_put.Goals as goal

pub returns : goal.returns
returns c = replies_are_put
