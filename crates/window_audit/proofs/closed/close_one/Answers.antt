use Rattle.std.proofs.Common.{◌∙◌, ◌++◌, List, ap, sym}
use Rattle.std.specs.List.{filter}
use Rattle.std.proofs.lemmas.Result.{on_ok_weaker}
use Rattle.seen_network.specs.declared.window.Window.{Window}
use Rattle.window_audit.specs.OpenWindows.{was_flooded, windows_at, with_first}
use Rattle.window_audit.proofs.ClosingLemmas.{closed_one}
use Rattle.window_audit.proofs.closed.close_one.Goals as goal

pub returns : goal.returns
returns c = on_ok_weaker c.owe_all.result
    (λ owes. λ plan trace seen knows has.
    closed_one seen c.args.origin (was_flooded plan trace) (windows_at c.args.open_windows.now) (windows_at c.take-windows.new.self) c.args.owed.now.items c.owe_all.new.owed.items (sym (c.has.ensures seen
    knows) ∙ c.if-has.false)
    c.take-windows.ensures.left
    (owes plan trace has ∙ ap (λ (ws : List Window). c.args.owed.now.items ++ filter (was_flooded plan trace) ws) (ap (with_first c.take-windows.result.first) c.as_slice.ensures ∙ c.take-windows.ensures.windows)))
    c.owe_all.ensures
