use Rattle.std.proofs.lemmas.Result.{on_ok_weaker}
use Rattle.window_audit.proofs.window_state.WindowState.pass_first.Goals as goal

pub returns-clause-state : goal.returns-clause-state
returns-clause-state c = on_ok_weaker c.tell-2.result (λ follows. λ seen knows. (follows seen knows).knows) c.tell-2.ensures.follows
