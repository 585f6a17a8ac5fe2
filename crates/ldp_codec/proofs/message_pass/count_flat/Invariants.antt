use Rattle.std.proofs.Common.{length, ◌-◌}
use Rattle.ldp_codec.proofs.ViewLemmas.{CountedTo}
use Rattle.ldp_codec.proofs.message_pass.count_flat.Given as goal

abbrev pub invariant-passing : goal.invariant-passing
invariant-passing l = CountedTo l.body l.at l.count

abbrev pub decreases-passing : goal.decreases-passing
decreases-passing l = length l.body - l.at
