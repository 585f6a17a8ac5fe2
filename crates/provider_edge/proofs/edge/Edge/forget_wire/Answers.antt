-- The wire is one of the forwarding's plan too. What was forgotten at it unsettles no end, so the invariant stands.
use Rattle.std.proofs.Common.{◌≡◌, ◌<◌, ◌∙◌, ap, length, subst, sym}
use Rattle.std.specs.Prelude.{IfSome}
use Rattle.net_base.specs.declared.plan.Plan.{Plan}
use Rattle.net_base.specs.plan.Places.{wire_row}
use Rattle.edge_model.specs.Mend.{forgetting_wire}
use Rattle.edge_model.specs.State.{EdgeState}
use Rattle.provider_edge.specs.contracts.edge.Edge.{the_view}
use Rattle.provider_edge.proofs.ForwardLemmas.{holds_kept, seen_wire}
use Rattle.provider_edge.proofs.TidyLemmas.{tidy_forgot}
use Rattle.provider_edge.specs.Lists.{EdgeLists, seen}
use Rattle.provider_edge.specs.Tidy.{IsTidy}
use Rattle.provider_edge.proofs.edge.Edge.forget_wire.Goals as goal

pub forget_wire-requires : goal.forget_wire-requires
forget_wire-requires c = subst (λ (p : Plan). c.args.wire.0 < length p.wires) (sym c.self.invariant.plan)
    (subst (λ (n : EdgeLists). c.args.wire.0 < length n.plan.wires) (sym c.self.view_is) c.requires.within)

pub invariant_of-self : goal.invariant_of-self
invariant_of-self c =
    let v : EdgeLists = the_view c.self.inside in
    holds_kept v c.forget_wire.new.self c.forget_wire.ensures.keeps (ap (λ (e : EdgeLists). e.stopped) c.self.view_is ∙ c.requires.working)
    (subst (λ (e : EdgeState). IfSome v.marks (IsTidy v.plan e)) (sym (seen_wire v c.forget_wire.new.self c.args.wire c.self.invariant c.forget_wire.ensures.keeps c.forget_wire.ensures.step))
    (tidy_forgot v.plan (seen v) c.args.wire (wire_row v.plan c.args.wire) v.marks c.self.invariant.tidy)) c.self.invariant

pub returns-clause-step : goal.returns-clause-step
returns-clause-step c =
    subst (λ (n : EdgeLists). seen (record (the_view c.self.inside) { forwarding = c.forget_wire.new.self }) ≡ forgetting_wire n.plan c.args.wire (wire_row n.plan c.args.wire) (seen n)) c.self.view_is
    (seen_wire (the_view c.self.inside) c.forget_wire.new.self c.args.wire c.self.invariant c.forget_wire.ensures.keeps c.forget_wire.ensures.step)
