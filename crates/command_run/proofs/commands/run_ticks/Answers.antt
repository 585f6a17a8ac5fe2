-- One more tick is done. Where the network stops at one, so does the run of the ticks, and a network that a limit stopped goes on.
use Rattle.std.proofs.Common.{◌∙◌, subst}
use Rattle.std.proofs.lemmas.Result.{err_from_is_err_and}
use Rattle.psn_net.specs.Runs.{Ended, RunHalts}
use Rattle.net_base.specs.declared.trace.event.Event.TheVariants.{Tick}
use Rattle.command_run.proofs.GoingLemmas.{stopped_going}
use Rattle.command_run.proofs.MadeLemmas.{tick_done, tick_stopped}
use Rattle.command_run.proofs.commands.run_ticks.Goals as goal

pub loop-done-preserved : goal.loop-done-preserved
loop-done-preserved c = record {
  plan = c.in_ok-apply.ensures.plan ∙ c.loop-done.invariant.plan;
  going = c.in_ok-apply.ensures.going.1;
  ran = tick_done _ _ c.apply.new.self _ _ c.loop-done.invariant.plan c.loop-done-test.true
      c.in_ok-apply.ensures.within c.in_ok-apply.ensures.state c.in_ok-apply.ensures.told ∙ c.loop-done.invariant.ran;
}

pub returns-in_err-apply-clause-ran : goal.returns-in_err-apply-clause-ran
returns-in_err-apply-clause-ran c =
    let p = err_from_is_err_and c.from_residual.result c.from_residual.ensures.1 in
    let stop = c.in_err-apply.field-0.0 in
    rw (p.1, p.2) (subst (λ (e : Ended). RunHalts stop c.apply.new.self e) c.loop-done.invariant.ran
    (tick_stopped c.args.network.now.plan c.loop-done.network c.apply.new.self stop c.args.count c.loop-done._done c.loop-done-test.true
    c.in_err-apply.ensures.stops))

pub returns-in_err-apply-clause-going : goal.returns-in_err-apply-clause-going
returns-in_err-apply-clause-going c =
    let p = err_from_is_err_and c.from_residual.result c.from_residual.ensures.1 in
    rw (p.1, p.2) (stopped_going c.loop-done.network c.apply.new.self Tick c.in_err-apply.field-0.0 c.loop-done.invariant.going c.in_err-apply.ensures.stops)
