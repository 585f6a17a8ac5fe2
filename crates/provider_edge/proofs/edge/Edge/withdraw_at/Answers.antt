-- The service is one of the forwarding's plan too. What its bridge has forgotten unsettles no end, so the invariant stands.
use Rattle.std.proofs.Common.{◌≡◌, ◌<◌, length, sym, subst, ◌∙◌, ap}
use Rattle.net_base.specs.declared.plan.Plan.{Plan}
use Rattle.edge_model.specs.Clear.{withdrawing_at}
use Rattle.edge_model.specs.State.{EdgeState}
use Rattle.provider_edge.specs.contracts.edge.Edge.{the_view}
use Rattle.std.specs.Prelude.{IfSome}
use Rattle.provider_edge.proofs.ForwardLemmas.{holds_kept, seen_kept}
use Rattle.provider_edge.proofs.TidyLemmas.{tidy_withdrawn}
use Rattle.provider_edge.specs.Lists.{EdgeLists, seen}
use Rattle.provider_edge.specs.Tidy.{IsTidy}
use Rattle.provider_edge.proofs.edge.Edge.withdraw_at.Goals as goal

pub withdraw-requires : goal.withdraw-requires
withdraw-requires c = subst (λ (p : Plan). c.args.service.0 < length p.services) (sym c.self.invariant.plan)
    (subst (λ (n : EdgeLists). c.args.service.0 < length n.plan.services) (sym c.self.view_is) c.requires.within)

pub invariant_of-self : goal.invariant_of-self
invariant_of-self c =
    let v : EdgeLists = the_view c.self.inside in
    holds_kept v c.withdraw.new.self c.withdraw.ensures.keeps (ap (λ (e : EdgeLists). e.stopped) c.self.view_is ∙ c.requires.working)
    (subst (λ (e : EdgeState). IfSome v.marks (IsTidy v.plan e))
    (sym (seen_kept (withdrawing_at c.args.service c.args.addresses.now c.args.from) v c.withdraw.new.self c.self.invariant c.withdraw.ensures.keeps c.withdraw.ensures.step))
    (tidy_withdrawn v.plan (seen v) c.args.service c.args.addresses.now c.args.from v.marks c.self.invariant.tidy)) c.self.invariant

pub returns-clause-step : goal.returns-clause-step
returns-clause-step c =
    subst (λ (n : EdgeLists). seen (record (the_view c.self.inside) { forwarding = c.withdraw.new.self }) ≡ withdrawing_at c.args.service c.args.addresses.now c.args.from (seen n)) c.self.view_is
    (seen_kept (withdrawing_at c.args.service c.args.addresses.now c.args.from) (the_view c.self.inside) c.withdraw.new.self c.self.invariant c.withdraw.ensures.keeps c.withdraw.ensures.step)
