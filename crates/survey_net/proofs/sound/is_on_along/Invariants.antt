use Rattle.std.proofs.Common.{◌≡◌, true, length}
use Rattle.std.specs.List.{list_all}
use Rattle.net_base.specs.plan.RowFaults.{is_edge_of}
use Rattle.psn_net.specs.Lists.{network_seen}
use Rattle.settle_laws.specs.Sound.{is_on_along}
use Rattle.survey_net.proofs.sound.is_on_along.Given as goal

abbrev pub invariant-edges : goal.invariant-edges
invariant-edges l = (list_all (is_edge_of l.network.plan) l.rest ≡ true) × (is_on_along (network_seen l.network) l.wire.0 l.rest ≡ is_on_along (network_seen l.network) l.wire.0 l.path)

abbrev pub decreases-edges : goal.decreases-edges
decreases-edges l = length l.rest
