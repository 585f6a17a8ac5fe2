use Rattle.std.proofs.Common.{List, take}
use Rattle.net_base.specs.declared.plan.Plan.{Plan}
use Rattle.net_base.specs.declared.trace.entry.Entry.{Entry}
use Rattle.seen_network.specs.Seen.{Seen}
use Rattle.seen_state.specs.SeenState.{Knows}
use Rattle.window_audit.specs.OpenWindows.{HasClosed, are_copies_over, was_flooded, windows_at}
use Rattle.window_audit.specs.Sources.{HasSources}
use Rattle.window_audit.proofs.closed.close.Given as goal

abbrev pub invariant-loop-origin : goal.invariant-loop-origin
invariant-loop-origin l = (plan : Plan) (trace : List Entry) (seen : Seen) → Knows l.state seen → HasSources plan l.sources trace
    → HasClosed (are_copies_over seen (take l.origin-index l.losses)) (was_flooded plan trace) (windows_at l.fn.open_windows) (windows_at l.open_windows) l.fn.owed.items l.owed.items
