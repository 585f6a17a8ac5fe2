use Rattle.move_examples.proofs.laws.moves_heal_over_a_switching_point.Goals as goal
use Rattle.move_examples.proofs.StitchedExamples.{healed}

pub returns : goal.returns
returns c = healed
