use Rattle.move_laws.proofs.HealLemmas.{runs_heal_moves}
use Rattle.move_laws.proofs.laws.runs_heal_moves.Goals as goal

pub returns : goal.returns
returns c = runs_heal_moves
