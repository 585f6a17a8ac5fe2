use Rattle.seen_laws.proofs.SourceLemmas.{runs_seen_once}
use Rattle.seen_laws.proofs.laws.runs_are_seen_once.Goals as goal

pub returns : goal.returns
returns c = runs_seen_once
