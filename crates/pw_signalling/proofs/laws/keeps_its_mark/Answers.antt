use Rattle.pw_signalling.proofs.LawLemmas.{keeps_its_mark}
use Rattle.pw_signalling.proofs.laws.keeps_its_mark.Goals as goal

pub returns : goal.returns
returns c = keeps_its_mark
