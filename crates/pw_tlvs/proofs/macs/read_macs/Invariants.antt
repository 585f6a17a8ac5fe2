-- The addresses before the place are the list.
use Rattle.std.proofs.Common.{length, ◌-◌}
use Rattle.pw_tlvs.proofs.MacLemmas.{AreMacsUpTo}
use Rattle.pw_tlvs.proofs.macs.read_macs.Given as goal

abbrev pub invariant-reading : goal.invariant-reading
invariant-reading l = AreMacsUpTo l.value l.at l.list

abbrev pub decreases-reading : goal.decreases-reading
decreases-reading l = length l.value - l.at
