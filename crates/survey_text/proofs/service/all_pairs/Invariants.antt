use Rattle.std.proofs.Common.{◌≡◌, ◌&&◌, ℕ, nat_lt}
use Rattle.survey_reach.specs.Words.{has_pair, in_word}
use Rattle.survey_text.proofs.service.all_pairs.Given as goal

abbrev pub invariant-loop-edge : goal.invariant-loop-edge
invariant-loop-edge l = (a b : ℕ) → has_pair l.pairs a b ≡ (nat_lt a l.edge && in_word l.at b)
