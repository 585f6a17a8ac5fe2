use Rattle.std.proofs.Common.{◌≡◌, ◌||◌, ℕ, drop, length}
use Rattle.std.specs.List.{list_any}
use Rattle.net_base.specs.plan.Paths.{joins}
use Rattle.psn_net.specs.PairIndex.{has_mark}
use Rattle.psn_net.proofs.shared_plan.mark_wires.Given as goal

abbrev pub invariant-loop-place : goal.invariant-loop-place
invariant-loop-place l = record {
  size : length l.index.rows ≡ length l.fn.index.rows;
  each : (a b : ℕ) → has_mark l.index a b || list_any (λ row. joins a b row.path) (drop l.place l.wires) ≡ has_mark l.fn.index a b || list_any (λ row. joins a b row.path) l.wires;
}
