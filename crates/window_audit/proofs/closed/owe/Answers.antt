use Rattle.std.specs.List.{filter}
use Rattle.std.proofs.lemmas.List.{at_drop_all}
use Rattle.window_audit.specs.OpenWindows.{was_flooded}
use Rattle.window_audit.proofs.ClosingLemmas.{owes_more, owes_whole}
use Rattle.window_audit.proofs.closed.owe.Goals as goal

pub loop-window-preserved : goal.loop-window-preserved
loop-window-preserved c = λ plan trace has.
    owes_more (was_flooded plan trace) c.args.windows.now c.loop-window.window-index c.window-item.result c.loop-window.owed.items c.owe_one.new.owed.items _ c.loop-window-test.true c.window-item.is
    (c.in_ok-owe_one.ensures plan trace has) (c.loop-window.invariant plan trace has)

pub returns : goal.returns
returns c = λ plan trace has.
    owes_whole _ c.loop-window.owed.items _ (at_drop_all (filter (was_flooded plan trace)) c.args.windows.now c.loop-window.window-index c.loop-window-test.false) (c.loop-window.invariant plan
    trace has)
