-- One more octet has come, until as many have as were asked for or lay in front.
use Rattle.std.proofs.Common.{◌≡◌, ◌<◌, ◌≤◌, ◌∙◌, ℕ, List, length, min, ap, arith}
use Rattle.switchover_net.specs.Net.{SwitchLists}
use Rattle.octet_pipes.specs.Pipes.{pipes_of}
use Rattle.switchover_net.proofs.LineLemmas.{all_delivered, more_delivered, piece_long}
use Rattle.switchover_net.proofs.switch_net.SwitchNet.deliver.Goals as goal

pub loop-octet-preserved : goal.loop-octet-preserved
loop-octet-preserved c =
    let most_is : length c.front-most.result.now ≡ min (length (pipes_of c.args.self.now.pipes c.args.way.from.0 c.args.way.to.0)) c.args.count = ap (λ (l : List ℕ). length l) c.front-most.ensures
    ∙ (piece_long c.args.count (pipes_of c.self.inside.pipes c.args.way.from.0 c.args.way.to.0)
    ∙ ap (λ (n : SwitchLists). min (length (pipes_of n.pipes c.args.way.from.0 c.args.way.to.0)) c.args.count) c.self.view_is) in
    let below : c.loop-octet._octet < length c.front-most.result.now = omega (arith, c.loop-octet-test.true) in
    record {
      delivered = more_delivered c.args.self.now.row.plan c.args.way.from c.args.way.to c.args.count c.loop-octet._octet
          (length c.front-most.result.now) c.args.self.now c.loop-octet.self c.deliver_one.new.self c.args.work.now.out c.loop-octet.work.out c.deliver_one.new.work.out most_is below
          c.in_ok-deliver_one.ensures.plan c.in_ok-deliver_one.ensures.step c.loop-octet.invariant.delivered;
      used = c.in_ok-deliver_one.ensures.used;
    }

pub returns-clause-step : goal.returns-clause-step
returns-clause-step c =
    let most_is : length c.front-most.result.now ≡ min (length (pipes_of c.args.self.now.pipes c.args.way.from.0 c.args.way.to.0)) c.args.count = ap (λ (l : List ℕ). length l) c.front-most.ensures
    ∙ (piece_long c.args.count (pipes_of c.self.inside.pipes c.args.way.from.0 c.args.way.to.0)
    ∙ ap (λ (n : SwitchLists). min (length (pipes_of n.pipes c.args.way.from.0 c.args.way.to.0)) c.args.count) c.self.view_is) in
    let past : length c.front-most.result.now ≤ c.loop-octet._octet = omega (arith, c.loop-octet-test.false) in
    all_delivered c.args.self.now.row.plan c.args.way.from.0 c.args.way.to.0 c.args.count c.loop-octet._octet
    (length c.front-most.result.now) c.args.self.now c.loop-octet.self c.args.work.now.out c.loop-octet.work.out most_is past c.loop-octet.invariant.delivered
