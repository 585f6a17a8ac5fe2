-- A command of ticks is of any plan.
use Rattle.command_text.proofs.commands.command_by_word.Goals as goal

pub returns-in-tick-clause-planned : goal.returns-in-tick-clause-planned
returns-in-tick-clause-planned c = c.tick.ensures.planned c.args.plan.now
