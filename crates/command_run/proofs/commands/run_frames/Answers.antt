-- One more frame has entered, and those left are frames too; a network that a limit stopped goes on.
use Rattle.std.proofs.Common.{◌∙◌}
use Rattle.std.proofs.lemmas.List.Elements.{All-rest}
use Rattle.net_base.specs.plan.Planned.{IsFrame}
use Rattle.net_base.specs.declared.trace.event.Event.TheVariants.{Frame}
use Rattle.psn_net.proofs.RunLemmas.{ran_one}
use Rattle.psn_net.specs.Lists.{network_seen}
use Rattle.psn_net.specs.Runs.{ran}
use Rattle.command_run.specs.Made.{frames_entering}
use Rattle.command_run.proofs.GoingLemmas.{stopped_going}
use Rattle.command_run.proofs.MadeLemmas.{entering_next}
use Rattle.command_run.proofs.commands.run_frames.Goals as goal

pub loop-frame-preserved : goal.loop-frame-preserved
loop-frame-preserved c = (
  tt,
  tt,
  record {
    plan = c.in-Ok.ensures.plan ∙ c.loop-frame.invariant.2.plan;
    going = c.in-Ok.ensures.going.1;
    ran = entering_next c.args.network.now.plan c.loop-frame.network c.enter.new.self
        (ran c.args.network.now.plan (network_seen c.args.network.now) c.args.network.now.trace (frames_entering c.args.circuit c.args.frames))
        c.args.circuit c.in-Some.frame c.loop-frame.frame-iterator.rest.items c.next.new.self.rest.items c.in-Some.ensures.steps.0 c.loop-frame.invariant.2.plan c.loop-frame.invariant.2.ran (ran_one c.loop-frame.network.plan c.loop-frame.network c.enter.new.self (Frame c.args.circuit c.in-Some.frame) c.in-Ok.ensures.within c.in-Ok.ensures.state c.in-Ok.ensures.told);
    short = All-rest IsFrame c.in-Some.frame c.next.new.self.rest.items c.loop-frame.frame-iterator.rest.items c.in-Some.ensures.steps.0 c.loop-frame.invariant.2.short;
  },
)

pub returns-in-Err-clause-going : goal.returns-in-Err-clause-going
returns-in-Err-clause-going c = stopped_going c.loop-frame.network c.enter.new.self (Frame c.args.circuit c.in-Some.frame) c.in-Err.stop c.loop-frame.invariant.2.going c.in-Err.ensures.stops
