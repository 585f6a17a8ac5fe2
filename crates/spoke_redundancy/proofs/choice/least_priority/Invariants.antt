-- The least priority number so far.
use Rattle.std.proofs.Common.{take}
use Rattle.spoke_redundancy.specs.Least.{IsLeast}
use Rattle.spoke_redundancy.proofs.choice.least_priority.Given as goal

abbrev pub invariant-loop-spoke : goal.invariant-loop-spoke
invariant-loop-spoke l = IsLeast (take l.spoke-index l.spokes) l.least
