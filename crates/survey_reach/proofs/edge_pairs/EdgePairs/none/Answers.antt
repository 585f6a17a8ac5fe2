use Rattle.survey_reach.proofs.WordLemmas.{none_in_rows}
use Rattle.survey_reach.proofs.edge_pairs.EdgePairs.none.Goals as goal

pub returns : goal.returns
returns c = none_in_rows 64
