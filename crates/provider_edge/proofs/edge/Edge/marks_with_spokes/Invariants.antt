-- the first slots have marks
use Rattle.std.proofs.Common.{IfSome}
use Rattle.provider_edge.proofs.MarkLemmas.{MarksFirst}
use Rattle.provider_edge.proofs.edge.Edge.marks_with_spokes.Given as goal

abbrev pub invariant-loop-slot : goal.invariant-loop-slot
invariant-loop-slot l = IfSome l.fn.self.marks (λ old. MarksFirst l.slots l.slot-index old l.marks)
