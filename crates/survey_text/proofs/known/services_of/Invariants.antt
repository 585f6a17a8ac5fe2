use Rattle.survey_reach.specs.Reach.{HasBefallen}
use Rattle.std.proofs.Common.{[]}
use Rattle.survey_text.proofs.KnownLemmas.{AreMade}
use Rattle.survey_text.proofs.known.services_of.Given as goal

abbrev pub ghost-new : goal.ghost-new
ghost-new g a = g.before

abbrev pub invariant-loop-shape : goal.invariant-loop-shape
invariant-loop-shape g l =
    (goal.iterator-loop-shape g).can_next l.shape-iterator
    × (goal.iterator-loop-shape g).is_finite l.shape-iterator
    × record {
      made : AreMade l.over.plan.now g.before l.services.items l.shape-iterator.rest.items;
      befallen : HasBefallen l.over.plan.now g.before [] l.reaching;
    }
