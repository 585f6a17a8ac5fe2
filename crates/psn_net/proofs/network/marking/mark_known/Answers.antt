use Rattle.psn_net.proofs.IndexLemmas.{marked_two}
use Rattle.psn_net.proofs.network.marking.mark_known.Goals as goal

pub returns-then-other-count-clause-marked : goal.returns-then-other-count-clause-marked
returns-then-other-count-clause-marked c = marked_two c.args.parts.now c.args.me.0 c.args.other.0 c.args.index.now c.mark_pair.new.index c.mark_pair.ensures.marked
