-- The edge stands before the last of those that are left, where it stands inside.
use Rattle.std.proofs.Common.{◌≡◌, ◌≤◌, ◌+◌, ◌-◌, drop, length}
use Rattle.net_base.specs.trace.Split.{is_before_last}
use Rattle.trace_audit.proofs.path_audit.stands_inside.Given as goal

abbrev pub invariant-walking : goal.invariant-walking
invariant-walking l = (1 ≤ l.at) × ((l.at ≤ length l.path + 1) × (is_before_last l.edge (drop l.at l.path) ≡ is_before_last l.edge (drop 1 l.path)))

abbrev pub decreases-walking : goal.decreases-walking
decreases-walking l = length l.path - l.at
