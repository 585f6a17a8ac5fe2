use Rattle.std.proofs.Common.{◌≡◌, ◌≤◌, ◌+◌, ◌*◌, drop}
use Rattle.survey_reach.specs.Words.{has_pair}
use Rattle.survey_text.specs.Relations.{pairs_where}
use Rattle.survey_text.specs.Surveys.{count_in}
use Rattle.survey_text.proofs.counting.count_pairs.Given as goal

abbrev pub invariant-loop-edge : goal.invariant-loop-edge
invariant-loop-edge l = record {
  so_far : l.sum + pairs_where (count_in l.sites) (has_pair l.pairs) l.edge (drop l.edge l.edges) ≡ pairs_where (count_in l.sites) (has_pair l.pairs) 0 l.edges;
  few : l.sum ≤ 274869518400 * l.edge;
}
