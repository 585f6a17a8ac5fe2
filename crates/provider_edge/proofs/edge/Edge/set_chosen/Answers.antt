-- The spoke is chosen, and the ends of the spokes of the service have marks.
use Rattle.std.proofs.Common.{rules, sym}
use Rattle.provider_edge.specs.contracts.edge.Edge.{the_view}
use Rattle.provider_edge.proofs.MarkingLemmas.{chosen_marked, chosen_seen}
use Rattle.provider_edge.proofs.SettledLemmas.{chosen_already}
use Rattle.provider_edge.specs.Lists.{seen}
use Rattle.provider_edge.proofs.edge.Edge.set_chosen.Goals as goal

pub returns-then-has_choice-clause-step : goal.returns-then-has_choice-clause-step
returns-then-has_choice-clause-step c = sym (chosen_already c.args.service c.args.chosen (seen c.args.self.now) (c.has_choice.ensures c.if-has_choice.true))

pub invariant_of-self : goal.invariant_of-self
invariant_of-self c =
    chosen_marked (the_view c.self.inside) c.args.self.now c.choose.new.self c.args.service c.args.chosen c.marks_of-marks.result c.self.view_is c.self.invariant c.requires.within c.choose.ensures c.requires.chosen c.marks_of-marks.ensures (search rules)

pub returns-clause-step : goal.returns-clause-step
returns-clause-step c = chosen_seen (the_view c.self.inside) c.args.self.now c.choose.new.self c.args.service c.args.chosen c.marks_of-marks.result c.self.view_is c.self.invariant c.requires.within c.choose.ensures
