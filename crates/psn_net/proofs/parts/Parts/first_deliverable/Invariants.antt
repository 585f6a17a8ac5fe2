use Rattle.std.proofs.Common.{◌≡◌, ◌-◌, length}
use Rattle.network_model.specs.Connection.{is_deliverable}
use Rattle.network_model.specs.Delivery.{first_pair}
use Rattle.psn_net.specs.Lists.{network_seen}
use Rattle.psn_net.proofs.parts.Parts.first_deliverable.Given as goal

abbrev pub invariant-loop-from : goal.invariant-loop-from
invariant-loop-from l = first_pair (is_deliverable (network_seen l.self)) (length l.self.plan.edges) l.from (length l.self.plan.edges - l.from)
    ≡ first_pair (is_deliverable (network_seen l.self)) (length l.self.plan.edges) 0 (length l.self.plan.edges)
