-- The types of a rehearsal's plan.
use Rattle.vplsnet.proofs.TypedPlanLemmas.{rehearsed_types}
use Rattle.vplsnet.proofs.run_files.work_of.Goals as goal

pub returns-in-Ok-clause-typed : goal.returns-in-Ok-clause-typed
returns-in-Ok-clause-typed g c = rehearsed_types c.in-Ok.scenario _ c.in-Ok.ensures.scenario
