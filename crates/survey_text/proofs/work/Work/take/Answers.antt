use Rattle.std.proofs.Common.{◌∙◌, List, [], subst, sym}
use Rattle.survey_laws.specs.declared.fault.Fault.{Fault}
use Rattle.survey_text.specs.declared.change.Change.{Change}
use Rattle.survey_text.specs.Surveys.{AreLeft, any_changed}
use Rattle.survey_text.proofs.work.Work.take.Goals as goal

pub returns-clause-changes : goal.returns-clause-changes
returns-clause-changes g c =
    subst (λ (f : List Fault). AreLeft c.args.over.plan.now g.before f [] c.leave_parts.new.self.changes.items) (sym c.leave_parts.ensures.faults)
    (subst (λ (l : List Change). AreLeft c.args.over.plan.now g.before c.fill.new.self.faults.items [] l) (sym c.leave_parts.ensures.changes) c.in_ok-fill.ensures.changes)

pub returns-clause-told : goal.returns-clause-told
returns-clause-told g c = c.is_some.ensures ∙ ((λ i. any_changed (c.as_slice.ensures i) (c.as_slice-2.ensures.value i)) ∙ c.in_ok-leave_parts.ensures.told)
