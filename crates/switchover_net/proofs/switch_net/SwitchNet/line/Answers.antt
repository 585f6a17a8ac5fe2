use Rattle.switchover_net.proofs.LineLemmas.{runs_reached}
use Rattle.switchover_net.proofs.switch_net.SwitchNet.line.Goals as goal

pub returns-clause-reached : goal.returns-clause-reached
returns-clause-reached c = runs_reached c.args.self.now c.apply.new.self c.args.line _ c.apply.new.work.out c.is_idle.result c.if-is_idle.false c.is_idle.ensures c.in_ok-apply.ensures.plan c.requires.reached c.in_ok-apply.ensures.step
