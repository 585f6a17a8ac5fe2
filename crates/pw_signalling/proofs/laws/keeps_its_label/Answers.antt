use Rattle.pw_signalling.proofs.LawLemmas.{keeps_its_label}
use Rattle.pw_signalling.proofs.laws.keeps_its_label.Goals as goal

pub returns : goal.returns
returns c = keeps_its_label
