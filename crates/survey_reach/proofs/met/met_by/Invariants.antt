use Rattle.std.proofs.Common.{◌≡◌, ◌&&◌, ℕ, Some, nat_lt}
use Rattle.survey_reach.specs.Met.{core_at, meet}
use Rattle.survey_reach.specs.Words.{in_word}
use Rattle.survey_reach.proofs.met.met_by.Given as goal

abbrev pub invariant-loop-edge : goal.invariant-loop-edge
invariant-loop-edge l = (k : ℕ) → in_word l.word k ≡ nat_lt k l.edge && meet l.meshes (Some l.core.0) (core_at l.cores k)
