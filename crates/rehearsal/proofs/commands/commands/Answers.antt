use Rattle.rehearsal.proofs.CommandLemmas.{all_commands}
use Rattle.rehearsal.proofs.commands.commands.Goals as goal

pub returns : goal.returns
returns c = all_commands _ _ _ _ c.args.wires.now c.args.seed c.new-commands.ensures c.in_ok-add_connects.ensures c.in_ok-push.ensures.ok c.in_ok-add_frames.ensures
