use Rattle.std.proofs.Common.{◌≡◌, ◌-◌, length}
use Rattle.network_model.specs.Connection.{is_deliverable}
use Rattle.network_model.specs.Delivery.{first_from}
use Rattle.psn_net.specs.Lists.{network_seen}
use Rattle.psn_net.proofs.parts.Parts.first_deliverable_from.Given as goal

abbrev pub invariant-loop-to : goal.invariant-loop-to
invariant-loop-to l = first_from (is_deliverable (network_seen l.self) l.from) l.to (length l.self.plan.edges - l.to) ≡ first_from (is_deliverable (network_seen l.self) l.from) 0 (length l.self.plan.edges)
