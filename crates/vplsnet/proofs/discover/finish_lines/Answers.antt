-- The report of the script was written.
use Rattle.std.proofs.Common.{◌∙◌, Some, ap}
use Rattle.vplsnet.proofs.DiscoverLemmas.{ends_script}
use Rattle.vplsnet.proofs.WritingLemmas.{ends_text}
use Rattle.vplsnet.proofs.discover.finish_lines.Goals as goal

pub returns-in-Ok-run_script-clause-ends : goal.returns-in-Ok-run_script-clause-ends
returns-in-Ok-run_script-clause-ends g c =
    ends_script c.args.plan.now c.args.lines c.in-Ok-run_script.run'.net c.in-Ok-run_script.run'.stop _ _ _ _ c.requires.checked c.requires.planned c.requires.typed
    c.in-Ok-run_script.ensures.plan c.in-Ok-run_script.ensures.going c.in-Ok-run_script.ensures.course c.in-Ok-run_script.ensures.events c.run_script.ensures.standing
    (ends_text _ _ _ _ _ _ _ _ c.write_lines-outcome.ensures c.after_run.ensures.outcome (c.after_run.ensures.network ∙ ap Some c.into_network.ensures))
