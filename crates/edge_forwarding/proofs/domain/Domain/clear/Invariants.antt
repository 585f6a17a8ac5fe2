use Rattle.std.proofs.Common.{◌≡◌, length}
use Rattle.edge_forwarding.proofs.domain.Domain.clear.Given as goal

abbrev pub invariant-clearing : goal.invariant-clearing
invariant-clearing l = l.self ≡ record l.fn.self { bridge = record l.fn.self.bridge { entries = l.self.bridge.entries } }

abbrev pub decreases-clearing : goal.decreases-clearing
decreases-clearing l = length l.self.bridge.entries
