-- Parts that are good stand before the place, and the point is what they say.
use Rattle.std.proofs.Common.{length, ◌-◌}
use Rattle.pw_tlvs.proofs.ReadLemmas.{IsPointUpTo}
use Rattle.pw_tlvs.proofs.point_reading.point_of.Given as goal

abbrev pub invariant-reading : goal.invariant-reading
invariant-reading l = IsPointUpTo l.value l.at l.point

abbrev pub decreases-reading : goal.decreases-reading
decreases-reading l = length l.value - l.at
