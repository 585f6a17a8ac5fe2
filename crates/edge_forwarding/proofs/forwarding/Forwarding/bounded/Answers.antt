use Rattle.std.proofs.Common.{◌≡◌, ◌≤◌, ℕ, [], length, subst}
use Rattle.vsi_bridge.specs.BridgeState.{most_addresses}
use Rattle.edge_forwarding.specs.Forwarding.{ForwardingLists, domain_of, entries_of}
use Rattle.edge_forwarding.specs.contracts.forwarding.Forwarding.{the_view}
use Rattle.edge_forwarding.proofs.ForwardingLemmas.{few_each, none_beyond}
use Rattle.edge_forwarding.proofs.forwarding.Forwarding.bounded.Goals as goal

pub returns-clause-few : goal.returns-clause-few
returns-clause-few c = subst (λ (n : ForwardingLists). (service : ℕ) → length (entries_of (domain_of n service)) ≤ most_addresses) c.self.view_is (few_each (the_view c.self.inside) c.self.invariant)

pub returns-clause-past : goal.returns-clause-past
returns-clause-past c =
    subst (λ (n : ForwardingLists). (service : ℕ) → length n.plan.services ≤ service → entries_of (domain_of n service) ≡ []) c.self.view_is (none_beyond (the_view c.self.inside) c.self.invariant)
