use Rattle.std.proofs.Common.{◌≡◌, ◌≤◌, ◌+◌, ◌*◌, drop, true}
use Rattle.survey_text.specs.Relations.{sites_where}
use Rattle.survey_text.specs.Surveys.{count_in}
use Rattle.survey_text.proofs.sites.Sites.count.Given as goal

abbrev pub invariant-loop-edge : goal.invariant-loop-edge
invariant-loop-edge l = record {
  so_far : l.sum + sites_where (count_in l.self) (λ k. true) l.edge (drop l.edge l.edges) ≡ sites_where (count_in l.self) (λ k. true) 0 l.edges;
  few : l.sum ≤ 65535 * l.edge;
}
