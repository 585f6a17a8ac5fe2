use Rattle.psn_net.proofs.IndexLemmas.{marked_delivery}
use Rattle.psn_net.proofs.network.marking.mark_set.Goals as goal

pub returns-in-Deliver-clause-marked : goal.returns-in-Deliver-clause-marked
returns-in-Deliver-clause-marked c = marked_delivery c.args.parts.now c.args.event.now c.in-Deliver.from c.in-Deliver.to c.in-Deliver.count c.args.index.now c.mark_pair.new.index c.in-Deliver.is c.mark_pair.ensures.marked
