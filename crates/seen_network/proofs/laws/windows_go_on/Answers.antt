use Rattle.seen_network.proofs.WindowLemmas.{still_open, still_owed}
use Rattle.seen_network.proofs.laws.windows_go_on.Goals as goal

pub returns : goal.returns
returns c = λ plan done event rest bare found lasting owed lasting2 owed2 are_open are_owed is_opened passed. (
  still_open plan done event rest bare found lasting owed lasting2 owed2 are_open are_owed is_opened passed,
  still_owed plan done event rest bare found lasting owed lasting2 owed2 are_open are_owed is_opened passed,
)
