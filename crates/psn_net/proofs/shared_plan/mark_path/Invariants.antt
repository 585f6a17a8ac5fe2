use Rattle.std.proofs.Common.{◌≡◌, ◌||◌, ℕ, true, length}
use Rattle.net_base.specs.plan.Paths.{joins}
use Rattle.psn_net.specs.PairIndex.{has_mark}
use Rattle.psn_net.specs.SharedPlan.{are_below}
use Rattle.psn_net.proofs.shared_plan.mark_path.Given as goal

abbrev pub invariant-edges : goal.invariant-edges
invariant-edges l = record {
  size : length l.index.rows ≡ length l.fn.index.rows;
  below : are_below (length l.fn.index.rows) l.rest ≡ true;
  each : (a b : ℕ) → has_mark l.index a b || joins a b l.rest ≡ has_mark l.fn.index a b || joins a b l.path;
}

abbrev pub decreases-edges : goal.decreases-edges
decreases-edges l = length l.rest
