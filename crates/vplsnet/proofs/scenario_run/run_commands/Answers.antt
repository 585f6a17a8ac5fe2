-- One more command is done, and the captures left hold frames; or a limit stops the network, and that is the end of the whole run.
use Rattle.std.proofs.Common.{◌∙◌, rules, subst, sym}
use Rattle.std.specs.List.{All}
use Rattle.std.proofs.lemmas.List.Elements.{All-rest}
use Rattle.net_base.specs.plan.Planned.{IsFrame}
use Rattle.command_text.specs.Planned.{IsPlanned}
use Rattle.psn_net.specs.Lists.{network_seen}
use Rattle.psn_net.specs.Runs.{Ended, RunHalts, ran}
use Rattle.command_run.specs.Made.{made}
use Rattle.command_run.proofs.GoingLemmas.{limit_going}
use Rattle.command_run.proofs.MadeLemmas.{left_short, made_next, made_stopped, stopped_end}
use Rattle.vplsnet.proofs.scenario_run.run_commands.Goals as goal

pub loop-command-preserved : goal.loop-command-preserved
loop-command-preserved c =
    let whole : Ended = ran c.args.network.now.plan (network_seen c.args.network.now) c.args.network.now.trace (made c.args.network.now.plan (network_seen c.args.network.now) c.args.captures c.args.commands) in (
      tt,
      tt,
      record {
        plan = c.in-Ok.ensures.plan ∙ c.loop-command.invariant.2.plan;
        going = c.in-Ok.ensures.going;
        ran = made_next c.args.network.now.plan c.loop-command.network c.run_command.new.network whole c.loop-command.captures c.run_command.new.captures
            c.in-Some.command c.loop-command.command-iterator.rest.items c.next.new.self.rest.items c.in-Some.ensures.steps.0 c.loop-command.invariant.2.plan c.loop-command.invariant.2.ran
            c.in-Ok.ensures.ran c.in-Ok.ensures.left;
        planned = All-rest (IsPlanned c.args.network.now.plan) c.in-Some.command c.next.new.self.rest.items c.loop-command.command-iterator.rest.items c.in-Some.ensures.steps.0 c.loop-command.invariant.2.planned;
        short = subst (All (All IsFrame)) (sym c.in-Ok.ensures.left) (left_short c.in-Some.command c.loop-command.captures c.loop-command.invariant.2.short);
      },
    )

pub returns-in-Err-clause-plan : goal.returns-in-Err-clause-plan
returns-in-Err-clause-plan c = c.in-Err.ensures.plan ∙ c.loop-command.invariant.2.plan

pub returns-in-Err-clause-going : goal.returns-in-Err-clause-going
returns-in-Err-clause-going c = limit_going c.in-Err.stop c.run_command.new.network (search rules) c.in-Err.ensures.going

pub returns-in-Err-clause-ends : goal.returns-in-Err-clause-ends
returns-in-Err-clause-ends c =
    let whole : Ended = ran c.args.network.now.plan (network_seen c.args.network.now) c.args.network.now.trace (made c.args.network.now.plan (network_seen c.args.network.now) c.args.captures c.args.commands) in
    let halts : RunHalts c.in-Err.stop c.run_command.new.network whole =
    made_stopped c.args.network.now.plan c.loop-command.network c.run_command.new.network whole c.loop-command.captures
    c.in-Some.command c.loop-command.command-iterator.rest.items c.next.new.self.rest.items c.in-Err.stop c.in-Some.ensures.steps.0 c.loop-command.invariant.2.plan c.loop-command.invariant.2.ran
    c.in-Err.ensures.ran in
    stopped_end c.in-Err.stop c.run_command.new.network whole (search rules) halts
