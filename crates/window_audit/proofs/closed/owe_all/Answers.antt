use Rattle.std.proofs.lemmas.Result.{on_ok_weaker}
use Rattle.window_audit.specs.OpenWindows.{was_flooded}
use Rattle.window_audit.proofs.OpenLemmas.{owed_both}
use Rattle.window_audit.proofs.closed.owe_all.Goals as goal

pub returns-in_ok-owe_one-in-Some : goal.returns-in_ok-owe_one-in-Some
returns-in_ok-owe_one-in-Some c = on_ok_weaker c.owe.result
    (λ owes. λ plan trace has. rw c.in-Some.is
    (owed_both (was_flooded plan trace) c.in-Some.window c.args.others.now c.args.owed.now.items c.owe_one.new.owed.items c.owe.new.owed.items (c.in_ok-owe_one-in-Some.ensures plan trace has)
    (owes plan trace has)))
    c.owe.ensures
