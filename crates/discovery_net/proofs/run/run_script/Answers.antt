-- What the lines come to is what the script comes to; the events done are those of a run. What holds behind each line is a law of the lines
-- alone.
use Rattle.std.proofs.Common.{◌≡◌, ◌∙◌}
use Rattle.discovery_net.specs.Lists.{ended_at}
use Rattle.discovery_net.specs.Script.{script_course}
use Rattle.discovery_net.proofs.ScriptLemmas.{events_ran, script_ended}
use Rattle.discovery_net.proofs.StandLemmas.{holds_behind_each}
use Rattle.discovery_net.proofs.run.run_script.Goals as goal

pub returns-in-Err-clause-standing : goal.returns-in-Err-clause-standing
returns-in-Err-clause-standing c = holds_behind_each c.args.plan.now c.args.lines c.requires.lines

pub returns-in-Err-apply_lines-clause-standing : goal.returns-in-Err-apply_lines-clause-standing
returns-in-Err-apply_lines-clause-standing c = holds_behind_each c.args.plan.now c.args.lines c.requires.lines

pub returns-in-Ok-apply_lines : goal.returns-in-Ok-apply_lines
returns-in-Ok-apply_lines c =
    let ends : ended_at c.apply_lines.new.net c.in-Ok-apply_lines.stop ≡ script_course c.args.plan.now c.args.lines =
    script_ended c.args.plan.now c.args.lines c.in-Ok-apply_lines.stop c.in-Ok.net c.apply_lines.new.net c.in-Ok.ensures.plan c.in-Ok.ensures.trace c.in-Ok.ensures.notes c.in-Ok.ensures.first
    c.in-Ok-apply_lines.ensures.course in
    record {
      plan = c.in-Ok-apply_lines.ensures.plan ∙ c.in-Ok.ensures.plan;
      going = c.in-Ok-apply_lines.ensures.going;
      course = ends;
      events = events_ran c.args.plan.now c.args.lines c.apply_lines.new.net c.in-Ok-apply_lines.stop ends;
      standing = holds_behind_each c.args.plan.now c.args.lines c.requires.lines;
    }
