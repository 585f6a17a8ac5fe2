use Rattle.pw_signalling.proofs.LawLemmas.{holds_the_last_mapping}
use Rattle.pw_signalling.proofs.laws.holds_the_last_mapping.Goals as goal

pub returns : goal.returns
returns c = holds_the_last_mapping
