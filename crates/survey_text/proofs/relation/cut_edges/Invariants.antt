use Rattle.std.proofs.Common.{◌≡◌, ◌&&◌, ℕ, nat_lt}
use Rattle.survey_reach.specs.Words.{has_pair, in_word}
use Rattle.survey_text.specs.Relations.{is_cut}
use Rattle.survey_text.specs.Surveys.{is_whole}
use Rattle.survey_text.proofs.relation.cut_edges.Given as goal

abbrev pub invariant-loop-edge : goal.invariant-loop-edge
invariant-loop-edge l = (k : ℕ) → in_word l.cut k ≡ (nat_lt k l.edge && is_cut l.edges (has_pair l.pairs) (is_whole l.whole l.at) k)
