-- Each domain has forgotten what it has not heard for its age limit; none has heard an address after the edge's ticks. The invariant
-- stands.
use Rattle.std.proofs.Common.{◌≡◌, ◌∙◌, List, Option, ap, map, sym, subst}
use Rattle.edge_model.specs.Tick.{forgetting}
use Rattle.edge_forwarding.specs.declared.domain.Domain.{Domain}
use Rattle.edge_forwarding.specs.Domain.{aged_kept}
use Rattle.edge_forwarding.specs.Forwarding.{ForwardingLists, IsForwarding, with_forwarding}
use Rattle.edge_forwarding.specs.contracts.forwarding.Forwarding.{the_view}
use Rattle.edge_forwarding.proofs.ChangeLemmas.{all_mapped}
use Rattle.edge_forwarding.proofs.ForwardingLemmas.{aged_is, aged_seen, none_later}
use Rattle.edge_forwarding.proofs.forwarding.Forwarding.age.Goals as goal

pub change_all-requires : goal.change_all-requires
change_all-requires c = none_later (the_view c.self.inside) c.self.invariant

pub invariant_of-self : goal.invariant_of-self
invariant_of-self c =
    let v : ForwardingLists = the_view c.self.inside in
    let aged : c.change_all.new.domains.items ≡ map (aged_kept v.ticks) v.domains =
    all_mapped (aged_kept v.ticks) v.domains c.change_all.new.domains.items c.change_all.ensures.len c.change_all.ensures.each in
    subst (λ (domains : List (Option Domain)). IsForwarding (record v { domains = domains })) (sym aged) (aged_is v c.self.invariant)

pub returns-clause-step : goal.returns-clause-step
returns-clause-step c = λ edge.
    let v : ForwardingLists = the_view c.self.inside in
    let aged : c.change_all.new.domains.items ≡ map (aged_kept v.ticks) v.domains =
    all_mapped (aged_kept v.ticks) v.domains c.change_all.new.domains.items c.change_all.ensures.len c.change_all.ensures.each in
    subst (λ (n : ForwardingLists). with_forwarding (record v { domains = c.change_all.new.domains.items }) edge ≡ forgetting n.plan (with_forwarding n edge)) c.self.view_is
    (ap (λ (domains : List (Option Domain)). with_forwarding (record v { domains = domains }) edge) aged ∙ aged_seen v edge c.self.invariant)
