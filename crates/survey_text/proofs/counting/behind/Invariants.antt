use Rattle.std.proofs.Common.{◌≡◌, ◌≤◌, ◌+◌, ◌*◌, drop}
use Rattle.survey_reach.specs.Words.{in_word}
use Rattle.survey_text.specs.Relations.{sites_where}
use Rattle.survey_text.specs.Surveys.{count_in}
use Rattle.survey_text.proofs.counting.behind.Given as goal

abbrev pub invariant-loop-edge : goal.invariant-loop-edge
invariant-loop-edge l = record {
  so_far : l.sum + sites_where (count_in l.sites) (in_word l.row) l.edge (drop l.edge l.edges) ≡ sites_where (count_in l.sites) (in_word l.row) l.from (drop l.from l.edges);
  few : l.sum ≤ 65535 * l.edge;
}
