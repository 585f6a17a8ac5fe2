use Rattle.window_audit.specs.OpenWindows.{was_flooded, windows_at}
use Rattle.window_audit.proofs.ClosingLemmas.{closed_more, closed_whole}
use Rattle.window_audit.proofs.closed.close.Goals as goal

pub loop-origin-preserved : goal.loop-origin-preserved
loop-origin-preserved c = λ plan trace seen knows has.
    closed_more seen c.args.losses.now c.loop-origin.origin-index (was_flooded plan trace) (windows_at c.args.open_windows.now) (windows_at c.loop-origin.open_windows) (windows_at c.close_one.new.open_windows)
    c.args.owed.now.items c.loop-origin.owed.items
    c.close_one.new.owed.items c.loop-origin-test.true (c.loop-origin.invariant plan trace seen knows has) (c.in_ok-close_one.ensures plan trace seen knows has)

pub returns : goal.returns
returns c = λ plan trace seen knows has.
    closed_whole seen c.args.losses.now c.loop-origin.origin-index (was_flooded plan trace) (windows_at c.args.open_windows.now) (windows_at c.loop-origin.open_windows) c.args.owed.now.items
    c.loop-origin.owed.items c.loop-origin-test.false
    (c.loop-origin.invariant plan trace seen knows has)
