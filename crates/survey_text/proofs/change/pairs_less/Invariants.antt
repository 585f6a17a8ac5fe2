use Rattle.std.proofs.Common.{◌≡◌, ℕ}
use Rattle.survey_reach.specs.Words.{has_pair}
use Rattle.survey_text.specs.Surveys.{is_less}
use Rattle.survey_text.proofs.change.pairs_less.Given as goal

abbrev pub invariant-loop-edge : goal.invariant-loop-edge
invariant-loop-edge l = (a b : ℕ) → has_pair l.pairs a b ≡ is_less l.edge l.at l.first l.second a b
