-- One more line is done, or the run halts at it.
use Rattle.std.proofs.Common.{◌∙◌, arith, rules}
use Rattle.std.proofs.lemmas.Grind.{common_steps}
use Rattle.std.proofs.lemmas.List.Elements.{All-rest}
use Rattle.command_run.proofs.GoingLemmas.{limit_going}
use Rattle.discovery_script.specs.Planned.{IsDiscoveryLineOf}
use Rattle.discovery_net.proofs.ScriptLemmas.{way_ended, way_next, way_stopped}
use Rattle.discovery_net.proofs.run.apply_lines.Goals as goal

pub loop-line-preserved : goal.loop-line-preserved
loop-line-preserved c = (
  tt,
  tt,
  record {
    plan = c.in-Ok.ensures.plan ∙ c.loop-line.invariant.2.plan;
    going = c.in-Ok.ensures.going;
    lines = All-rest (IsDiscoveryLineOf c.args.net.now.network.plan) c.in-Some.line c.next.new.self.rest.items c.loop-line.line-iterator.rest.items c.in-Some.ensures.steps.0 c.loop-line.invariant.2.lines;
    way = λ all begun. way_next c.args.net.now.network.plan all c.loop-line.line-iterator.rest.items c.next.new.self.rest.items c.in-Some.line c.loop-line.net c.apply_line.new.self
        c.in-Some.ensures.steps.0 c.loop-line.invariant.2.plan c.in-Ok.ensures.acts c.in-Ok.ensures.after (c.loop-line.invariant.2.way all begun);
  },
)

pub returns-in-Err : goal.returns-in-Err
returns-in-Err c = record {
  plan = c.in-Err.ensures.plan ∙ c.loop-line.invariant.2.plan;
  going = limit_going c.in-Err.stop c.apply_line.new.self.network (search rules) c.in-Err.ensures.going;
  course = λ all begun. way_stopped c.args.net.now.network.plan all c.loop-line.line-iterator.rest.items c.next.new.self.rest.items c.in-Some.line c.loop-line.net c.apply_line.new.self c.in-Err.stop
      c.in-Some.ensures.steps.0 c.loop-line.invariant.2.plan (search rules) c.in-Err.ensures.acts (c.loop-line.invariant.2.way all begun);
}

pub returns-clause-course : goal.returns-clause-course
returns-clause-course c = λ all begun.
    way_ended c.args.net.now.network.plan all c.loop-line.line-iterator.rest.items c.loop-line.net (grind (arith, common_steps)) (c.loop-line.invariant.2.way all begun)
