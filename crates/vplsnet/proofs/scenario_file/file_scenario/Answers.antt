-- The types of a plan that was read.
use Rattle.vplsnet.proofs.TypedPlanLemmas.{read_types}
use Rattle.vplsnet.proofs.scenario_file.file_scenario.Goals as goal

pub returns-in-Ok-read_scenario-clause-typed : goal.returns-in-Ok-read_scenario-clause-typed
returns-in-Ok-read_scenario-clause-typed g c = read_types _ c.in-Ok-read_scenario.scenario c.in-Ok-read_scenario.ensures.document
