-- The case that was worked out is that of the faults at the places.
use Rattle.std.proofs.Common.{List, [], subst}
use Rattle.survey_laws.specs.declared.fault.Fault.{Fault}
use Rattle.survey_text.specs.Surveys.{AreLeft}
use Rattle.survey_text.proofs.VisitLemmas.{on_ok, visits_case}
use Rattle.survey_text.proofs.survey.Survey.visit.Goals as goal

pub returns-in-Ok-clause-visits : goal.returns-in-Ok-clause-visits
returns-in-Ok-clause-visits g c = visits_case c.args.over.plan.now g.before c.close.result _ _ _ _ _ _ c.in-Ok.ensures.faults c.close.ensures.text c.close.ensures.tally

pub returns-in-Ok-clause-changes : goal.returns-in-Ok-clause-changes
returns-in-Ok-clause-changes g c =
    on_ok c.close.result (rw c.close.ensures.changes (subst (λ (f : List Fault). AreLeft c.args.over.plan.now g.before f [] c.take.new.self.changes.items) c.in-Ok.ensures.faults c.in-Ok.ensures.changes))
