use Rattle.flood_laws.proofs.laws.runs_reach_what_wires_carry.Goals as goal
use Rattle.flood_laws.proofs.RunLemmas.{runs_reach_what_wires_carry}

pub returns : goal.returns
returns c = runs_reach_what_wires_carry
