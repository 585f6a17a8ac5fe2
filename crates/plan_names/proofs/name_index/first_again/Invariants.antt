-- No name before the place stood before its own.
use Rattle.std.proofs.Common.{◌≡◌, take, drop}
use Rattle.std.specs.Str.{bytes_eq}
use Rattle.net_base.specs.plan.Faults.{first_clash, clash_after}
use Rattle.plan_names.proofs.name_index.first_again.Given as goal

abbrev pub invariant-loop-at : goal.invariant-loop-at
invariant-loop-at l = clash_after bytes_eq (take l.at l.names) l.at (drop l.at l.names) ≡ first_clash bytes_eq l.names
