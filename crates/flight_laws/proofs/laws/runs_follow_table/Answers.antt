use Rattle.flight_laws.proofs.laws.runs_follow_table.Goals as goal
use Rattle.flight_laws.proofs.RunLemmas as run

pub returns : goal.returns
returns c = run.runs_follow_table
