use Rattle.std.proofs.Common.{◌≡◌, ◌<◌, ◌||◌, ℕ, length}
use Rattle.net_base.specs.plan.Paths.{joins}
use Rattle.calm_services.specs.EdgePairs.{has_pair}
use Rattle.calm_services.proofs.edge_pairs.EdgePairs.join_path.Given as goal

abbrev pub invariant-joining : goal.invariant-joining
invariant-joining l = (x y : ℕ) → x < 64 → y < 64 → joins x y l.rest || has_pair l.self x y ≡ joins x y l.path || has_pair l.fn.self x y

abbrev pub decreases-joining : goal.decreases-joining
decreases-joining l = length l.rest
