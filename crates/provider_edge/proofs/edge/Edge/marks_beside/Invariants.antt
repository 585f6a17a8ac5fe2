-- the ends of each wire have marks of which one of the first ends is beside the peer
use Rattle.std.proofs.Common.{IfSome}
use Rattle.provider_edge.proofs.MarkLemmas.{MarksSome}
use Rattle.provider_edge.proofs.edge.Edge.marks_beside.Given as goal

abbrev pub invariant-loop-slot : goal.invariant-loop-slot
invariant-loop-slot l = IfSome l.fn.marks (λ old. MarksSome l.self.ends.places l.peer.0 l.slot old l.marks)
