use Rattle.std.proofs.Common.{List, take}
use Rattle.net_base.specs.declared.trace.entry.Entry.{Entry}
use Rattle.seen_network.specs.Verdict.{IsFirstOwed}
use Rattle.window_audit.specs.Exits.{HasExits}
use Rattle.window_audit.proofs.verdict.first_unserved.Given as goal

abbrev pub invariant-loop-window : goal.invariant-loop-window
invariant-loop-window l = (trace : List Entry) → HasExits l.exits trace → IsFirstOwed l.plan trace (take l.window-index l.owed) l.first
