use Rattle.psn_net.proofs.JoinedLemmas.{path_more, path_split}
use Rattle.psn_net.proofs.shared_plan.after_first.Goals as goal

pub returns-in-len1-up-clause-marked : goal.returns-in-len1-up-clause-marked
returns-in-len1-up-clause-marked c = path_more c.args.index.now c.mark_first.new.index c.args.path.now _ _
    (path_split c.args.path.now (record { 0 = 0 }) c.in-len1-up.len_at_least) c.mark_first.ensures.marked
