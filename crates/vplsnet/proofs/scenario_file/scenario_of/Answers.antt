-- The scenario was had, and what stands behind it was not.
use Rattle.vplsnet.specs.Asked.{run_asked_by}
use Rattle.vplsnet.proofs.ScenarioFileLemmas.{lacks_some}
use Rattle.vplsnet.proofs.scenario_file.scenario_of.Goals as goal

pub returns-in-Err-captures_behind-clause-refused : goal.returns-in-Err-captures_behind-clause-refused
returns-in-Err-captures_behind-clause-refused g c =
    lacks_some _ _ _ _ _ _ (run_asked_by c.args.request) c.args.file.now c.in-Ok.scenario c.in-Err-captures_behind.outcome c.in-Ok.ensures.reads c.captures_behind.ensures.reads
    c.in-Ok.ensures.never_fall c.requires c.in-Ok.ensures.has c.in-Err-captures_behind.ensures.lacks
