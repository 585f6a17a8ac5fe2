use Rattle.std.proofs.Common.{◌∙◌, ℕ, Some, true, replicate, length, ap, subst}
use Rattle.net_base.specs.declared.plan.Plan.{Plan}
use Rattle.net_base.specs.declared.trace.down.Down.TheVariants.{NoLocal}
use Rattle.edge_forwarding.specs.Domain.{AreNew}
use Rattle.edge_forwarding.proofs.ForwardingLemmas.{new_is, new_opened}
use Rattle.edge_forwarding.proofs.forwarding.Forwarding.open.Goals as goal

pub invariant_of-result : goal.invariant_of-result
invariant_of-result c = new_is c.args.plan.value c.args.me c.in_ok-circuits_on.circuits_on.items c.in_ok-told_down.told_down.items c.in_ok-domains.domains.items c.requires.checked (record {
  circuits = c.in_ok-circuits_on.ensures.items_if_clones_equal (λ y same. same) ∙ ap (λ (n : ℕ). replicate n true) (c.len.ensures ∙ ap (λ (p : Plan). length p.circuits) c.deref.ensures);
  wires = c.in_ok-told_down.ensures ∙ ap (λ (n : ℕ). replicate n (Some NoLocal)) (c.len-2.ensures ∙ ap (λ (p : Plan). length p.wires) c.deref-2.ensures);
  services = subst (λ (p : Plan). AreNew p c.args.me (length p.services) c.in_ok-domains.domains.items) c.deref-3.ensures c.in_ok-domains.ensures;
})

pub returns : goal.returns
returns c = new_opened c.args.plan.value c.args.me c.in_ok-circuits_on.circuits_on.items c.in_ok-told_down.told_down.items c.in_ok-domains.domains.items (record {
  circuits = c.in_ok-circuits_on.ensures.items_if_clones_equal (λ y same. same) ∙ ap (λ (n : ℕ). replicate n true) (c.len.ensures ∙ ap (λ (p : Plan). length p.circuits) c.deref.ensures);
  wires = c.in_ok-told_down.ensures ∙ ap (λ (n : ℕ). replicate n (Some NoLocal)) (c.len-2.ensures ∙ ap (λ (p : Plan). length p.wires) c.deref-2.ensures);
  services = subst (λ (p : Plan). AreNew p c.args.me (length p.services) c.in_ok-domains.domains.items) c.deref-3.ensures c.in_ok-domains.ensures;
})
