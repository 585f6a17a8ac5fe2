-- Parameters that are good stand before the place, and what was found is what they say.
use Rattle.std.proofs.Common.{length, ◌-◌}
use Rattle.pw_tlvs.proofs.ReadLemmas.{AreFoundUpTo}
use Rattle.pw_tlvs.proofs.parameters.read_parameters.Given as goal

abbrev pub invariant-reading : goal.invariant-reading
invariant-reading l = AreFoundUpTo l.octets l.at l.found

abbrev pub decreases-reading : goal.decreases-reading
decreases-reading l = length l.octets - l.at
