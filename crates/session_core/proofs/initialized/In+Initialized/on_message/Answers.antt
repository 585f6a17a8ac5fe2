use Rattle.session_core.proofs.ReasonLemmas.{passive_accepts, passive_bad_receiver, passive_zero_time}
use Rattle.session_core.proofs.initialized.In+Initialized.on_message.Goals as goal

pub returns-clause-accepts : goal.returns-clause-accepts
returns-clause-accepts c = rw c.by_row.ensures.session (passive_accepts c.args.self c.args.message.now)

pub returns-clause-bad_receiver : goal.returns-clause-bad_receiver
returns-clause-bad_receiver c = rw c.by_row.ensures.session (passive_bad_receiver c.args.self c.args.message.now)

pub returns-clause-zero_keep_alive : goal.returns-clause-zero_keep_alive
returns-clause-zero_keep_alive c = rw c.by_row.ensures.session (passive_zero_time c.args.self c.args.message.now)
