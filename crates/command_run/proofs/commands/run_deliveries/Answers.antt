-- One more delivery is done. Where the network stops at one, so does the run of the deliveries, and a network that a limit stopped goes on.
use Rattle.std.proofs.Common.{◌∙◌, subst}
use Rattle.std.proofs.lemmas.Result.{err_from_is_err_and}
use Rattle.psn_net.specs.Runs.{Ended, RunHalts}
use Rattle.command_run.proofs.GoingLemmas.{stopped_going}
use Rattle.command_run.proofs.MadeLemmas.{delivery_done, delivery_stopped}
use Rattle.command_run.proofs.commands.run_deliveries.Goals as goal

pub loop-turn-preserved : goal.loop-turn-preserved
loop-turn-preserved c = record {
  plan = c.in_ok-apply-in-Some.ensures.plan ∙ c.loop-turn.invariant.plan;
  going = c.in_ok-apply-in-Some.ensures.going.1;
  ran = delivery_done _ _ c.apply.new.self _ _ c.in-Some.event c.loop-turn.invariant.plan c.loop-turn-test.true c.in-Some.ensures.next
      c.in_ok-apply-in-Some.ensures.within c.in_ok-apply-in-Some.ensures.state c.in_ok-apply-in-Some.ensures.told ∙ c.loop-turn.invariant.ran;
}

pub returns-in_err-apply-in-Some-clause-ran : goal.returns-in_err-apply-in-Some-clause-ran
returns-in_err-apply-in-Some-clause-ran c =
    let p = err_from_is_err_and c.from_residual.result c.from_residual.ensures.1 in
    let stop = c.in_err-apply-in-Some.field-0.0 in
    rw (p.1, p.2) (subst (λ (e : Ended). RunHalts stop c.apply.new.self e) c.loop-turn.invariant.ran
    (delivery_stopped c.args.network.now.plan c.loop-turn.network c.apply.new.self stop c.args.count c.loop-turn._turn c.in-Some.event c.loop-turn.invariant.plan c.loop-turn-test.true c.in-Some.ensures.next
    c.in_err-apply-in-Some.ensures.stops))

pub returns-in_err-apply-in-Some-clause-going : goal.returns-in_err-apply-in-Some-clause-going
returns-in_err-apply-in-Some-clause-going c =
    let p = err_from_is_err_and c.from_residual.result c.from_residual.ensures.1 in
    rw (p.1, p.2) (stopped_going c.loop-turn.network c.apply.new.self c.in-Some.event c.in_err-apply-in-Some.field-0.0 c.loop-turn.invariant.going c.in_err-apply-in-Some.ensures.stops)
