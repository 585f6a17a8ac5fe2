-- A domain stands at the service's place exactly where the service has a port at the edge; its bridge has the service's ports, addresses
-- and age limit.
use Rattle.std.proofs.Common.{◌≡◌, ◌<◌, ◌∙◌, true, false, List, Option, Some, None, length, slice_get, ap, refl, sym, subst, arith}
use Rattle.std.proofs.lemmas.Bool.Decides.{nat_tests}
use Rattle.std.proofs.lemmas.Option.{slice_get_read}
use Rattle.hvpls_spokes.specs.Port.{ports_of}
use Rattle.edge_forwarding.specs.declared.domain.Domain.{Domain}
use Rattle.edge_forwarding.specs.Domain.{age_of}
use Rattle.edge_forwarding.specs.Forwarding.{ForwardingLists, domain_of, entries_of}
use Rattle.edge_forwarding.specs.contracts.forwarding.Forwarding.{the_view}
use Rattle.edge_forwarding.proofs.ForwardingLemmas.{HasNone, lent_age, lent_learned, lent_none, lent_ports, lent_some}
use Rattle.edge_forwarding.proofs.forwarding.Forwarding.bridge.Goals as goal

pub returns-in-Some-clause-none : goal.returns-in-Some-clause-none
returns-in-Some-clause-none c =
    let v : ForwardingLists = the_view c.self.inside in
    let within : c.args.service.0 < length c.deref.result.now = grind (arith, nat_tests, c.in_ok-domain.ensures.lookup.0) in
    let found : slice_get v.domains c.args.service.0 ≡ Some (Some c.in-Some.domain) =
    ap (λ (kept : List (Option Domain)). slice_get kept c.args.service.0) (sym c.deref.ensures.value)
    ∙ (slice_get_read c.deref.result.now (length c.deref.result.now) c.args.service.0 c.in_ok-domain.field-0.now refl within c.in_ok-domain.ensures.lookup.1
    ∙ ap (λ (kept : Option Domain). Some kept) c.in-Some.is) in
    subst (λ (n : ForwardingLists). (true ≡ false → HasNone n c.args.service) × (HasNone n c.args.service → true ≡ false)) c.self.view_is
    (lent_some v c.args.service c.in-Some.domain c.self.invariant found)

pub returns-in-Some-clause-learned : goal.returns-in-Some-clause-learned
returns-in-Some-clause-learned c =
    let v : ForwardingLists = the_view c.self.inside in
    let within : c.args.service.0 < length c.deref.result.now = grind (arith, nat_tests, c.in_ok-domain.ensures.lookup.0) in
    let found : slice_get v.domains c.args.service.0 ≡ Some (Some c.in-Some.domain) =
    ap (λ (kept : List (Option Domain)). slice_get kept c.args.service.0) (sym c.deref.ensures.value)
    ∙ (slice_get_read c.deref.result.now (length c.deref.result.now) c.args.service.0 c.in_ok-domain.field-0.now refl within c.in_ok-domain.ensures.lookup.1
    ∙ ap (λ (kept : Option Domain). Some kept) c.in-Some.is) in
    subst (λ (n : ForwardingLists). c.in-Some.domain.bridge.entries ≡ entries_of (domain_of n c.args.service.0)) c.self.view_is (lent_learned v c.args.service c.in-Some.domain found)

pub returns-in-Some-clause-ports : goal.returns-in-Some-clause-ports
returns-in-Some-clause-ports c =
    let v : ForwardingLists = the_view c.self.inside in
    let within : c.args.service.0 < length c.deref.result.now = grind (arith, nat_tests, c.in_ok-domain.ensures.lookup.0) in
    let found : slice_get v.domains c.args.service.0 ≡ Some (Some c.in-Some.domain) =
    ap (λ (kept : List (Option Domain)). slice_get kept c.args.service.0) (sym c.deref.ensures.value)
    ∙ (slice_get_read c.deref.result.now (length c.deref.result.now) c.args.service.0 c.in_ok-domain.field-0.now refl within c.in_ok-domain.ensures.lookup.1
    ∙ ap (λ (kept : Option Domain). Some kept) c.in-Some.is) in
    subst (λ (n : ForwardingLists). c.in-Some.domain.bridge.ports ≡ ports_of n.plan c.args.service n.me) c.self.view_is (lent_ports v c.args.service c.in-Some.domain c.self.invariant found)

pub returns-in-Some-clause-age : goal.returns-in-Some-clause-age
returns-in-Some-clause-age c =
    let v : ForwardingLists = the_view c.self.inside in
    let within : c.args.service.0 < length c.deref.result.now = grind (arith, nat_tests, c.in_ok-domain.ensures.lookup.0) in
    let found : slice_get v.domains c.args.service.0 ≡ Some (Some c.in-Some.domain) =
    ap (λ (kept : List (Option Domain)). slice_get kept c.args.service.0) (sym c.deref.ensures.value)
    ∙ (slice_get_read c.deref.result.now (length c.deref.result.now) c.args.service.0 c.in_ok-domain.field-0.now refl within c.in_ok-domain.ensures.lookup.1
    ∙ ap (λ (kept : Option Domain). Some kept) c.in-Some.is) in
    subst (λ (n : ForwardingLists). age_of n.plan c.args.service ≡ Some c.in-Some.domain.bridge.age) c.self.view_is (lent_age v c.args.service c.in-Some.domain c.self.invariant found)

pub returns-in-None-clause-none : goal.returns-in-None-clause-none
returns-in-None-clause-none c =
    let v : ForwardingLists = the_view c.self.inside in
    let within : c.args.service.0 < length c.deref.result.now = grind (arith, nat_tests, c.in_ok-domain.ensures.lookup.0) in
    let found : slice_get v.domains c.args.service.0 ≡ Some None =
    ap (λ (kept : List (Option Domain)). slice_get kept c.args.service.0) (sym c.deref.ensures.value)
    ∙ (slice_get_read c.deref.result.now (length c.deref.result.now) c.args.service.0 c.in_ok-domain.field-0.now refl within c.in_ok-domain.ensures.lookup.1
    ∙ ap (λ (kept : Option Domain). Some kept) c.in-None.is) in
    subst (λ (n : ForwardingLists). (false ≡ false → HasNone n c.args.service) × (HasNone n c.args.service → false ≡ false)) c.self.view_is (lent_none v c.args.service c.self.invariant found)
