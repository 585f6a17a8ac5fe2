use Rattle.std.proofs.Common.{◌≡◌, drop}
use Rattle.survey_reach.specs.Words.{has_pair}
use Rattle.survey_text.specs.Relations.{any_edge}
use Rattle.survey_text.proofs.change.has_some.Given as goal

abbrev pub invariant-loop-edge : goal.invariant-loop-edge
invariant-loop-edge l = any_edge (λ a. any_edge (has_pair l.pairs a) 0 l.edges) l.edge (drop l.edge l.edges) ≡ any_edge (λ a. any_edge (has_pair l.pairs a) 0 l.edges) 0 l.edges
