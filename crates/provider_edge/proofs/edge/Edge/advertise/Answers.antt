-- The end takes the label, and those of its wire have marks.
use Rattle.std.proofs.Common.{◌≡◌, None, Some, subst}
use Rattle.std.specs.Prelude.{IfSome}
use Rattle.edge_model.specs.Labels.{label_to_give}
use Rattle.edge_model.specs.Mend.{advertising}
use Rattle.pw_ends.specs.Ends.{place_of}
use Rattle.provider_edge.specs.contracts.edge.Edge.{the_view}
use Rattle.provider_edge.proofs.ListLemmas.{advertised_none, advertised_some}
use Rattle.provider_edge.proofs.MarkingLemmas.{labelled_marked}
use Rattle.provider_edge.specs.Lists.{EdgeLists, seen}
use Rattle.provider_edge.proofs.edge.Edge.advertise.Goals as goal

pub invariant_of-self : goal.invariant_of-self
invariant_of-self c =
    let v : EdgeLists = the_view c.self.inside in
    labelled_marked v c.args.self.now c.advertise-label.new.self c.args.told.now c.args.slot c.place_at.result c.advertise-label.result c.marks_at-marks.result c.self.view_is c.self.invariant c.requires.working c.advertise-label.ensures.places
    (λ is. (advertised_none v c.advertise-label.new.self (c.advertise-label.ensures.none.0 is) (c.advertise-label.ensures.unchanged is)).1)
    (advertised_some v c.advertise-label.new.self (place_of v.ends c.args.slot) c.args.told.now c.advertise-label.result c.advertise-label.ensures.places c.advertise-label.ensures.label c.advertise-label.ensures.next c.advertise-label.ensures.kept c.advertise-label.ensures.seen)
    c.place_at.ensures.place c.marks_at-marks.ensures

pub returns-clause-none : goal.returns-clause-none
unfolding seen
returns-clause-none c = λ is.
    subst (λ (n : EdgeLists). (label_to_give (seen n) ≡ None) × (seen (record (the_view c.self.inside) { ends = c.advertise-label.new.self; marks = c.marks_at-marks.result }) ≡ seen n)) c.self.view_is
    (advertised_none (the_view c.self.inside) c.advertise-label.new.self (c.advertise-label.ensures.none.0 is) (c.advertise-label.ensures.unchanged is))

pub returns-clause-step : goal.returns-clause-step
unfolding seen
returns-clause-step c =
    subst (λ (n : EdgeLists). IfSome c.advertise-label.result
    (λ label. (label_to_give (seen n) ≡ Some label)
    × (seen (record (the_view c.self.inside) { ends = c.advertise-label.new.self; marks = c.marks_at-marks.result })
    ≡ advertising (place_of n.ends c.args.slot) label c.args.told.now (seen n)))) c.self.view_is
    (advertised_some (the_view c.self.inside) c.advertise-label.new.self
    (place_of (the_view c.self.inside).ends c.args.slot) c.args.told.now c.advertise-label.result c.advertise-label.ensures.places c.advertise-label.ensures.label c.advertise-label.ensures.next c.advertise-label.ensures.kept c.advertise-label.ensures.seen)
