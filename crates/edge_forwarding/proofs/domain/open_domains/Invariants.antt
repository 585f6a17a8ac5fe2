use Rattle.edge_forwarding.specs.Domain.{AreNew}
use Rattle.edge_forwarding.proofs.domain.open_domains.Given as goal

abbrev pub invariant-loop-place : goal.invariant-loop-place
invariant-loop-place l = AreNew l.plan l.me l.place l.domains.items
