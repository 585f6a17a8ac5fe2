-- The octets of one more pair have come, until so many times are done; where no pair waits, nothing more is done.
use Rattle.std.proofs.Common.{◌≡◌, ◌<◌, ◌≤◌, ◌∙◌, Some, None, length, sym, subst, arith}
use Rattle.switchover_model.specs.Network.{first_differing_pair, is_waiting}
use Rattle.switchover_net.specs.Net.{SwitchLists}
use Rattle.octet_pipes.specs.Pipes.{pipes_of}
use Rattle.switchover_net.proofs.LineLemmas.{settled_all, settled_more, settled_none}
use Rattle.switchover_net.proofs.switch_net.SwitchNet.settle.Goals as goal

pub returns-in-None-clause-step : goal.returns-in-None-clause-step
returns-in-None-clause-step c =
    let below : c.loop-time._time < c.args.count = omega (arith, c.loop-time-test.true) in
    settled_none c.args.self.now.row.plan c.args.count c.loop-time._time c.args.self.now c.loop-time.self c.args.work.now.out c.loop-time.work.out below
    (subst (λ (n : SwitchLists). n.pipes.size ≡ length n.row.plan.edges) c.self.view_is c.self.invariant.size)
    (subst (λ (n : SwitchLists). None ≡ first_differing_pair (λ from to. is_waiting (pipes_of n.pipes from to)) n.pipes.size 0 n.pipes.size) c.self.view_is
    (sym c.in-None.is ∙ c.first_pair.ensures.first)) c.loop-time.invariant

pub loop-time-preserved : goal.loop-time-preserved
loop-time-preserved c =
    let below : c.loop-time._time < c.args.count = omega (arith, c.loop-time-test.true) in
    settled_more c.args.self.now.row.plan c.args.count c.loop-time._time (record { 0 = c.in-Some.pair.0 })
    (record { 0 = c.in-Some.pair.1 }) c.args.self.now c.loop-time.self c.deliver.new.self c.args.work.now.out c.loop-time.work.out c.deliver.new.work.out below
    (subst (λ (n : SwitchLists). n.pipes.size ≡ length n.row.plan.edges) c.self.view_is c.self.invariant.size)
    (subst (λ (n : SwitchLists). Some (c.in-Some.pair.0, c.in-Some.pair.1) ≡ first_differing_pair (λ from to. is_waiting (pipes_of n.pipes from to)) n.pipes.size 0 n.pipes.size) c.self.view_is
    (sym c.in-Some.is ∙ c.first_pair.ensures.first))
    c.in_ok-deliver-in-Some.ensures.plan c.in_ok-deliver-in-Some.ensures.reached c.in_ok-deliver-in-Some.ensures.step c.loop-time.invariant

pub returns-clause-step : goal.returns-clause-step
returns-clause-step c =
    let past : c.args.count ≤ c.loop-time._time = omega (arith, c.loop-time-test.false) in
    settled_all c.args.self.now.row.plan c.args.count c.loop-time._time c.args.self.now c.loop-time.self c.args.work.now.out c.loop-time.work.out past c.loop-time.invariant
