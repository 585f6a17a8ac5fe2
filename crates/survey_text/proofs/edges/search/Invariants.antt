use Rattle.std.proofs.Common.{◌≡◌, drop}
use Rattle.survey_reach.specs.Words.{in_word}
use Rattle.survey_text.specs.Relations.{any_edge}
use Rattle.survey_text.proofs.edges.search.Given as goal

abbrev pub invariant-loop-edge : goal.invariant-loop-edge
invariant-loop-edge l = any_edge (in_word l.word) l.edge (drop l.edge l.edges) ≡ any_edge (in_word l.word) l.from (drop l.from l.edges)
