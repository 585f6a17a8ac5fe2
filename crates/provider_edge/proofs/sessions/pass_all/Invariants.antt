use Rattle.std.proofs.Common.{◌≡◌, ◌++◌, drop, take}
use Rattle.provider_edge.specs.Sessions.{all_later}
use Rattle.provider_edge.proofs.sessions.pass_all.Given as goal

abbrev pub invariant-loop-one : goal.invariant-loop-one
invariant-loop-one l = l.one-items ≡ all_later l.ticks (take l.one-index l.fn.kept.items) ++ drop l.one-index l.fn.kept.items
