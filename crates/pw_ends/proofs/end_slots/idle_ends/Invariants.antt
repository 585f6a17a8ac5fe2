-- Nothing was told of the ends so far.
use Rattle.std.proofs.Common.{◌≡◌, map, replicate}
use Rattle.pw_signalling.specs.AnyEnd.{end_of}
use Rattle.pw_signalling.specs.End.{fresh}
use Rattle.pw_ends.proofs.end_slots.idle_ends.Given as goal

abbrev pub invariant-loop-slot : goal.invariant-loop-slot
invariant-loop-slot l = map end_of l.ends.items ≡ replicate l._slot fresh
