-- One more arrival is done. Where the network stops at one, so does the run of the arrivals, and a network that a limit stopped goes on.
use Rattle.std.proofs.Common.{◌∙◌, subst}
use Rattle.std.proofs.lemmas.Result.{err_from_is_err_and}
use Rattle.psn_net.specs.Runs.{Ended, RunHalts}
use Rattle.command_run.proofs.GoingLemmas.{stopped_going}
use Rattle.command_run.proofs.MadeLemmas.{arrival_done, arrival_stopped}
use Rattle.command_run.proofs.commands.run_arrivals.Goals as goal

pub loop-arrival-preserved : goal.loop-arrival-preserved
loop-arrival-preserved c = record {
  plan = c.in_ok-apply-in-Some.ensures.plan ∙ c.loop-arrival.invariant.plan;
  going = c.in_ok-apply-in-Some.ensures.going.1;
  ran = arrival_done _ _ c.apply.new.self _ _ c.in-Some.event c.loop-arrival.invariant.plan c.loop-arrival-test.true c.in-Some.ensures.next
      c.in_ok-apply-in-Some.ensures.within c.in_ok-apply-in-Some.ensures.state c.in_ok-apply-in-Some.ensures.told ∙ c.loop-arrival.invariant.ran;
}

pub returns-in_err-apply-in-Some-clause-ran : goal.returns-in_err-apply-in-Some-clause-ran
returns-in_err-apply-in-Some-clause-ran c =
    let p = err_from_is_err_and c.from_residual.result c.from_residual.ensures.1 in
    let stop = c.in_err-apply-in-Some.field-0.0 in
    rw (p.1, p.2) (subst (λ (e : Ended). RunHalts stop c.apply.new.self e) c.loop-arrival.invariant.ran
    (arrival_stopped c.args.network.now.plan c.loop-arrival.network c.apply.new.self stop c.args.count c.loop-arrival._arrival c.in-Some.event c.loop-arrival.invariant.plan c.loop-arrival-test.true c.in-Some.ensures.next
    c.in_err-apply-in-Some.ensures.stops))

pub returns-in_err-apply-in-Some-clause-going : goal.returns-in_err-apply-in-Some-clause-going
returns-in_err-apply-in-Some-clause-going c =
    let p = err_from_is_err_and c.from_residual.result c.from_residual.ensures.1 in
    rw (p.1, p.2) (stopped_going c.loop-arrival.network c.apply.new.self c.in-Some.event c.in_err-apply-in-Some.field-0.0 c.loop-arrival.invariant.going c.in_err-apply-in-Some.ensures.stops)
