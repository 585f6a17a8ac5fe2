use Rattle.edge_forwarding.proofs.ChangeLemmas.{AreChangedTo}
use Rattle.edge_forwarding.proofs.domain.change_all.Given as goal

abbrev pub invariant-loop-kept : goal.invariant-loop-kept
invariant-loop-kept l = AreChangedTo l.change l.fn.domains.items l.kept-items l.kept-index
