-- That both ends agree after the lines is a law of the lines alone, whatever the call answers.
use Rattle.switchover_model.proofs.AgreeLemmas.{scripts_agree}
use Rattle.switchover_net.proofs.script.play.Goals as goal

pub returns-in_err-network-clause-agrees : goal.returns-in_err-network-clause-agrees
returns-in_err-network-clause-agrees c = λ a b wire row at joined. scripts_agree c.args.plan.now c.requires.checked c.requires.types c.args.lines.now a b wire row at joined

pub returns-clause-agrees : goal.returns-clause-agrees
returns-clause-agrees c = λ a b wire row at joined. scripts_agree c.args.plan.now c.requires.checked c.requires.types c.args.lines.now a b wire row at joined
