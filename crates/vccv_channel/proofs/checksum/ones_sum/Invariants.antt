-- The sum is that of the words from the place on, which is even.
use Rattle.vccv_channel.proofs.WordLemmas.{IsSummedFrom}
use Rattle.vccv_channel.proofs.checksum.ones_sum.Given as goal

abbrev pub invariant-words : goal.invariant-words
invariant-words l = IsSummedFrom l.sum l.at l.octets

abbrev pub decreases-words : goal.decreases-words
decreases-words l = l.at
