-- The text of the run was written.
use Rattle.vplsnet.specs.Asked.{run_asked_by}
use Rattle.vplsnet.specs.ScenarioRun.{IsScenarioRun}
use Rattle.vplsnet.proofs.RunLemmas.{is_scenario_run}
use Rattle.vplsnet.proofs.WritingLemmas.{ends_run, ends_text}
use Rattle.vplsnet.proofs.run_files.finish_work.Goals as goal

pub returns-in-Ok-run_scenario-clause-ends : goal.returns-in-Ok-run_scenario-clause-ends
returns-in-Ok-run_scenario-clause-ends g c =
    let is : IsScenarioRun c.args.work.scenario c.args.work.captures c.in-Ok-run_scenario.run'.network c.in-Ok-run_scenario.run'.stop =
    is_scenario_run _ _ _ _ c.requires.checked c.requires.planned c.requires.frames c.in-Ok-run_scenario.ensures.run in
    ends_run _ _ (run_asked_by c.args.request) c.in-Ok-run_scenario.run'.network c.in-Ok-run_scenario.run'.stop _ _ _ _ is c.see_entries.ensures.typed c.see_entries.ensures.few
    (ends_text _ _ _ _ _ _ _ _ c.write_run-outcome.ensures c.after_run.ensures.outcome c.after_run.ensures.network)
