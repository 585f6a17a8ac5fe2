-- Parameters that are good stand before the place, and those were met that it says.
use Rattle.std.proofs.Common.{length, ◌-◌}
use Rattle.pw_tlvs.proofs.ReadLemmas.{AreMetUpTo}
use Rattle.pw_tlvs.proofs.parameters.parameters_fault.Given as goal

abbrev pub invariant-passing : goal.invariant-passing
invariant-passing l = AreMetUpTo l.octets l.at l.met

abbrev pub decreases-passing : goal.decreases-passing
decreases-passing l = length l.octets - l.at
