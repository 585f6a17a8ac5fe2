use Rattle.std.proofs.Common.{◌≡◌, ◌++◌, map, take, drop}
use Rattle.peer_dialogue.specs.Peering.{gone}
use Rattle.provider_edge.proofs.sessions.drop_all.Given as goal

abbrev pub invariant-loop-one : goal.invariant-loop-one
invariant-loop-one l = l.one-items ≡ map gone (take l.one-index l.fn.kept.items) ++ drop l.one-index l.fn.kept.items
