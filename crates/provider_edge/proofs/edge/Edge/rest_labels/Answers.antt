-- Where a label was left before, and where none is after it, the marks stay.
use Rattle.std.proofs.Common.{◌≡◌, ◌∙◌, None, ap, subst}
use Rattle.edge_model.specs.Labels.{resting}
use Rattle.provider_edge.specs.contracts.edge.Edge.{the_view}
use Rattle.provider_edge.proofs.ListLemmas.{ends_rest}
use Rattle.provider_edge.proofs.MarkingLemmas.{had_marked, none_marked}
use Rattle.provider_edge.specs.Lists.{EdgeLists, seen}
use Rattle.provider_edge.proofs.edge.Edge.rest_labels.Goals.{else-not-had_label-via-then-not-had_label+else-has_label, else-not-had_label-via-else-not-had_label}
use Rattle.provider_edge.proofs.edge.Edge.rest_labels.Goals as goal

pub invariant_of-self-else-has_label : goal.invariant_of-self-else-has_label
invariant_of-self-else-has_label c =
    none_marked (the_view c.self.inside) c.tick.new.self c.has_label.result (ap (λ (e : EdgeLists). e.stopped) c.self.view_is ∙ c.requires.working) c.self.invariant c.tick.ensures.ends
    c.has_label.ensures.left c.if-has_label.false

pub invariant_of-self-else-not-had_label : goal.invariant_of-self-else-not-had_label
invariant_of-self-else-not-had_label c =
    had_marked (the_view c.self.inside) c.tick.new.self c.has_label-had_label.result (ap (λ (e : EdgeLists). e.stopped) c.self.view_is ∙ c.requires.working) c.self.invariant c.tick.ensures.ends
    c.has_label-had_label.ensures.left c.if-not-had_label.false

pub returns-then-has_label-clause-step : goal.returns-then-has_label-clause-step
returns-then-has_label-clause-step c =
    subst (λ (n : EdgeLists). seen (record (the_view c.self.inside) { ends = c.tick.new.self; marks = None }) ≡ resting (seen n)) c.self.view_is
    (ends_rest (the_view c.self.inside) c.tick.new.self None c.tick.ensures.ends)

pub returns-else-not-had_label-clause-step : goal.returns-else-not-had_label-clause-step
returns-else-not-had_label-clause-step c =
    let v : EdgeLists = the_view c.self.inside in
    let rested : seen (record v { ends = c.tick.new.self }) ≡ resting (seen c.args.self.now) =
    subst (λ (n : EdgeLists). seen (record v { ends = c.tick.new.self }) ≡ resting (seen n)) c.self.view_is (ends_rest v c.tick.new.self v.marks c.tick.ensures.ends) in
    elim c.else-not-had_label.branch [
      | else-not-had_label-via-then-not-had_label+else-has_label w ↦ rw w.self-is rested
      | else-not-had_label-via-else-not-had_label w ↦ rw w.self-is rested
    ]
