-- The ends beside the peer are lost where no session stands.
use Rattle.std.proofs.Common.{◌≡◌, ◌∙◌, ap, refl, subst, sym, None}
use Rattle.edge_model.specs.Session.{losing_ends}
use Rattle.provider_edge.specs.contracts.edge.Edge.{the_view}
use Rattle.provider_edge.proofs.ListLemmas.{cleared, cleared_not, ends_lost, holds_ends, lost_already}
use Rattle.provider_edge.specs.Lists.{EdgeLists, seen}
use Rattle.provider_edge.proofs.edge.Edge.clear_ends.Goals as goal

pub returns-then-has_end-clause-step : goal.returns-then-has_end-clause-step
returns-then-has_end-clause-step c = λ calls out.
    cleared_not c.args.peer (seen c.args.self.now) calls out (sym c.has_end.ensures ∙ c.if-has_end.true)

pub returns-then-is_untold-clause-step : goal.returns-then-is_untold-clause-step
returns-then-is_untold-clause-step c = λ calls out.
    cleared c.args.peer (seen c.args.self.now) (seen c.args.self.now) calls out (sym c.has_end.ensures ∙ c.if-has_end.false)
    (subst (λ (n : EdgeLists). seen n ≡ losing_ends c.args.peer (seen n)) c.self.view_is
    (sym (lost_already (the_view c.self.inside) c.args.peer (c.if-is_untold.ensures.untold refl) (c.if-is_untold.ensures.kept refl))))

pub invariant_of-self : goal.invariant_of-self
invariant_of-self c =
    holds_ends (the_view c.self.inside) c.lose.new.self c.lose.ensures.places (ap (λ (e : EdgeLists). e.stopped) c.self.view_is ∙ c.requires.working) c.self.invariant

pub returns-clause-step : goal.returns-clause-step
returns-clause-step c = λ calls out.
    cleared c.args.peer (seen c.args.self.now) (seen (record (the_view c.self.inside) { ends = c.lose.new.self; marks = None })) calls out (sym c.has_end.ensures ∙ c.if-has_end.false)
    (subst (λ (n : EdgeLists). seen (record (the_view c.self.inside) { ends = c.lose.new.self; marks = None }) ≡ losing_ends c.args.peer (seen n)) c.self.view_is
    (ends_lost (the_view c.self.inside) c.lose.new.self c.args.peer c.lose.ensures.places c.lose.ensures.seen c.lose.ensures.next c.lose.ensures.kept))
