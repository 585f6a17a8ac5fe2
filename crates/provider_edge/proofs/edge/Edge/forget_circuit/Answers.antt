-- The circuit is of this service for the forwarding too. What the bridge has forgotten unsettles no end, so the invariant stands.
use Rattle.std.proofs.Common.{◌≡◌, ◌∙◌, Some, ap, position, subst, sym}
use Rattle.std.specs.Prelude.{IfSome}
use Rattle.net_base.specs.declared.plan.Plan.{Plan}
use Rattle.net_base.specs.declared.plan.places.EdgeId.{EdgeId}
use Rattle.net_base.specs.plan.Places.{circuit_row}
use Rattle.hvpls_spokes.specs.Port.{is_circuit_port, ports_of}
use Rattle.edge_forwarding.specs.Forwarding.{own_service}
use Rattle.edge_model.specs.State.{EdgeState, addresses_of, with_addresses, without_port}
use Rattle.provider_edge.specs.contracts.edge.Edge.{the_view}
use Rattle.provider_edge.proofs.ForwardLemmas.{holds_kept, seen_forgot}
use Rattle.provider_edge.proofs.TidyLemmas.{tidy_without}
use Rattle.provider_edge.specs.Lists.{EdgeLists, seen}
use Rattle.provider_edge.specs.Tidy.{IsTidy}
use Rattle.provider_edge.proofs.edge.Edge.forget_circuit.Goals as goal

pub forget_circuit-requires : goal.forget_circuit-requires
forget_circuit-requires c = record {
  own =
      subst (λ (m : EdgeId). own_service m (circuit_row (the_view c.self.inside).forwarding.plan c.args.circuit) ≡ Some c.args.service) (sym c.self.invariant.me)
      (subst (λ (p : Plan). own_service (the_view c.self.inside).me (circuit_row p c.args.circuit) ≡ Some c.args.service) (sym c.self.invariant.plan)
      (subst (λ (n : EdgeLists). own_service n.me (circuit_row n.plan c.args.circuit) ≡ Some c.args.service) (sym c.self.view_is) c.requires.own));
}

pub invariant_of-self : goal.invariant_of-self
invariant_of-self c =
    let v : EdgeLists = the_view c.self.inside in
    holds_kept v c.forget_circuit.new.self c.forget_circuit.ensures.keeps (ap (λ (e : EdgeLists). e.stopped) c.self.view_is ∙ c.requires.working)
    (subst (λ (e : EdgeState). IfSome v.marks (IsTidy v.plan e))
    (sym (seen_forgot (is_circuit_port c.args.circuit) v c.forget_circuit.new.self c.args.service c.self.invariant c.forget_circuit.ensures.keeps c.forget_circuit.ensures.step))
    (tidy_without v.plan (seen v) c.args.service (position (is_circuit_port c.args.circuit) (ports_of v.plan c.args.service v.me)) v.marks c.self.invariant.tidy)) c.self.invariant

pub returns-clause-step : goal.returns-clause-step
returns-clause-step c =
    subst (λ (n : EdgeLists). seen (record (the_view c.self.inside) { forwarding = c.forget_circuit.new.self })
    ≡ with_addresses c.args.service (without_port (position (is_circuit_port c.args.circuit) (ports_of n.plan c.args.service n.me)) (addresses_of (seen n) c.args.service)) (seen n)) c.self.view_is
    (seen_forgot (is_circuit_port c.args.circuit) (the_view c.self.inside) c.forget_circuit.new.self c.args.service c.self.invariant c.forget_circuit.ensures.keeps c.forget_circuit.ensures.step)
