use Rattle.provider_edge.proofs.KeptLemmas.{opened_empty, opened_going, opened_me, opened_plan}
use Rattle.provider_edge.proofs.edge.Edge.share.Goals as goal

pub returns-in-Ok-clause-plan : goal.returns-in-Ok-clause-plan
returns-in-Ok-clause-plan c = opened_plan c.args.plan.value c.args.me c.with_ends.result c.with_ends.ensures

pub returns-in-Ok-clause-me : goal.returns-in-Ok-clause-me
returns-in-Ok-clause-me c = opened_me c.args.plan.value c.args.me c.with_ends.result c.with_ends.ensures

pub returns-in-Ok-clause-empty : goal.returns-in-Ok-clause-empty
returns-in-Ok-clause-empty c = opened_empty c.args.plan.value c.args.me c.with_ends.result c.with_ends.ensures

pub returns-in-Ok-clause-stopped : goal.returns-in-Ok-clause-stopped
returns-in-Ok-clause-stopped c = opened_going c.args.plan.value c.args.me c.with_ends.result c.with_ends.ensures
