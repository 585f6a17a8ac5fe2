-- Each domain has forgotten its addresses, so nothing is learned at any service; the invariant stands.
use Rattle.std.proofs.Common.{◌≡◌, ◌∙◌, [], List, Option, ap, map, sym, subst}
use Rattle.edge_model.specs.State.{with_learned}
use Rattle.edge_forwarding.specs.declared.domain.Domain.{Domain}
use Rattle.edge_forwarding.specs.Domain.{cleared_kept}
use Rattle.edge_forwarding.specs.Forwarding.{ForwardingLists, IsForwarding, with_forwarding}
use Rattle.edge_forwarding.specs.contracts.forwarding.Forwarding.{the_view}
use Rattle.edge_forwarding.proofs.ChangeLemmas.{all_mapped}
use Rattle.edge_forwarding.proofs.ForwardingLemmas.{cleared_is, cleared_seen}
use Rattle.edge_forwarding.proofs.forwarding.Forwarding.clear.Goals as goal

pub change_all-requires : goal.change_all-requires
change_all-requires c = λ place kept within. tt

pub invariant_of-self : goal.invariant_of-self
invariant_of-self c =
    let v : ForwardingLists = the_view c.self.inside in
    let cleared : c.change_all.new.domains.items ≡ map cleared_kept v.domains = all_mapped cleared_kept v.domains c.change_all.new.domains.items c.change_all.ensures.len c.change_all.ensures.each in
    subst (λ (domains : List (Option Domain)). IsForwarding (record v { domains = domains })) (sym cleared) (cleared_is v c.self.invariant)

pub returns-clause-step : goal.returns-clause-step
returns-clause-step c = λ edge.
    let v : ForwardingLists = the_view c.self.inside in
    let cleared : c.change_all.new.domains.items ≡ map cleared_kept v.domains = all_mapped cleared_kept v.domains c.change_all.new.domains.items c.change_all.ensures.len c.change_all.ensures.each in
    subst (λ (n : ForwardingLists). with_forwarding (record v { domains = c.change_all.new.domains.items }) edge ≡ with_learned (λ service. []) (with_forwarding n edge)) c.self.view_is
    (ap (λ (domains : List (Option Domain)). with_forwarding (record v { domains = domains }) edge) cleared ∙ cleared_seen v edge)
