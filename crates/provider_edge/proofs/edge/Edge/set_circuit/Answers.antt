-- The circuit is of this service for the forwarding too. Turning it unsettles no end, so the invariant stands.
use Rattle.std.proofs.Common.{◌≡◌, ◌∙◌, Some, ap, subst, sym}
use Rattle.std.specs.Prelude.{IfSome}
use Rattle.net_base.specs.declared.plan.Plan.{Plan}
use Rattle.net_base.specs.declared.plan.places.EdgeId.{EdgeId}
use Rattle.net_base.specs.plan.Places.{circuit_row}
use Rattle.edge_forwarding.specs.Forwarding.{own_service}
use Rattle.edge_model.specs.State.{EdgeState, with_circuit}
use Rattle.provider_edge.specs.contracts.edge.Edge.{the_view}
use Rattle.provider_edge.proofs.ForwardLemmas.{holds_kept, seen_kept}
use Rattle.provider_edge.proofs.TidyLemmas.{tidy_circuit}
use Rattle.provider_edge.specs.Lists.{EdgeLists, seen}
use Rattle.provider_edge.specs.Tidy.{IsTidy}
use Rattle.provider_edge.proofs.edge.Edge.set_circuit.Goals as goal

pub turn-requires : goal.turn-requires
turn-requires c = record {
  own =
      subst (λ (m : EdgeId). own_service m (circuit_row (the_view c.self.inside).forwarding.plan c.args.circuit) ≡ Some c.args.service) (sym c.self.invariant.me)
      (subst (λ (p : Plan). own_service (the_view c.self.inside).me (circuit_row p c.args.circuit) ≡ Some c.args.service) (sym c.self.invariant.plan)
      (subst (λ (n : EdgeLists). own_service n.me (circuit_row n.plan c.args.circuit) ≡ Some c.args.service) (sym c.self.view_is) c.requires.own));
}

pub invariant_of-self : goal.invariant_of-self
invariant_of-self c =
    let v : EdgeLists = the_view c.self.inside in
    holds_kept v c.turn.new.self c.turn.ensures.keeps (ap (λ (e : EdgeLists). e.stopped) c.self.view_is ∙ c.requires.working)
    (subst (λ (e : EdgeState). IfSome v.marks (IsTidy v.plan e)) (sym (seen_kept (with_circuit c.args.circuit c.args.on) v c.turn.new.self c.self.invariant c.turn.ensures.keeps c.turn.ensures.step))
    (tidy_circuit v.plan (seen v) c.args.circuit c.args.on v.marks c.self.invariant.tidy)) c.self.invariant

pub returns-clause-step : goal.returns-clause-step
returns-clause-step c =
    subst (λ (n : EdgeLists). seen (record (the_view c.self.inside) { forwarding = c.turn.new.self }) ≡ with_circuit c.args.circuit c.args.on (seen n)) c.self.view_is
    (seen_kept (with_circuit c.args.circuit c.args.on) (the_view c.self.inside) c.turn.new.self c.self.invariant c.turn.ensures.keeps c.turn.ensures.step)
