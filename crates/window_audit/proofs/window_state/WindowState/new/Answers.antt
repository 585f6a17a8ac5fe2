use Rattle.seen_network.specs.Seen.{nothing_seen}
use Rattle.window_audit.proofs.WindowStateLemmas.{nothing}
use Rattle.window_audit.proofs.window_state.WindowState.new.Goals as goal

pub returns-in-Ok-clause-windows : goal.returns-in-Ok-clause-windows
returns-in-Ok-clause-windows c =
    nothing c.args.plan.now _ c.in-Ok.ensures.knows (c.new-in-Ok.ensures c.args.plan.now nothing_seen) c.new-in-Ok-2.ensures c.new-in-Ok-3.ensures.items
