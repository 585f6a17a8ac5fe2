use Rattle.label_space.proofs.LawLemmas.{labels_are_used_again}
use Rattle.label_space.proofs.laws.labels_are_used_again.Goals as goal

pub returns : goal.returns
returns c = labels_are_used_again
