use Rattle.std.proofs.Common.{◌≡◌, ◌&&◌, ℕ, nat_lt}
use Rattle.survey_reach.specs.Met.{AreMet, meets_by}
use Rattle.survey_reach.specs.Words.{has_pair}
use Rattle.survey_reach.proofs.met.rows.Given as goal

abbrev pub invariant-loop-edge : goal.invariant-loop-edge
invariant-loop-edge l = record {
  pairs : (a b : ℕ) → has_pair l.pairs a b ≡ nat_lt a l.edge && meets_by l.meshes l.cores a b;
  met : AreMet l.meshes l.cores l.met;
}
