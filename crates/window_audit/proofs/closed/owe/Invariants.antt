use Rattle.std.proofs.Common.{◌≡◌, ◌++◌, List, drop}
use Rattle.std.specs.List.{filter}
use Rattle.net_base.specs.declared.plan.Plan.{Plan}
use Rattle.net_base.specs.declared.trace.entry.Entry.{Entry}
use Rattle.window_audit.specs.OpenWindows.{was_flooded}
use Rattle.window_audit.specs.Sources.{HasSources}
use Rattle.window_audit.proofs.closed.owe.Given as goal

abbrev pub invariant-loop-window : goal.invariant-loop-window
invariant-loop-window l = (plan : Plan) (trace : List Entry) → HasSources plan l.sources trace
    → l.owed.items ++ filter (was_flooded plan trace) (drop l.window-index l.windows) ≡ l.fn.owed.items ++ filter (was_flooded plan trace) l.windows
