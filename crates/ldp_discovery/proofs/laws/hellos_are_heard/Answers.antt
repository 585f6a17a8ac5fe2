use Rattle.ldp_discovery.proofs.HearLemmas.{hellos_heard}
use Rattle.ldp_discovery.proofs.laws.hellos_are_heard.Goals as goal

pub returns : goal.returns
returns c = hellos_heard
