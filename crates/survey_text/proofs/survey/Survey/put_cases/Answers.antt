-- The last lines stand behind those of all cases.
use Rattle.std.proofs.Common.{◌∙◌, List, ap, length}
use Rattle.survey_laws.specs.declared.fault.Fault.{Fault}
use Rattle.survey_text.specs.Cases.{cases_of}
use Rattle.survey_text.proofs.VisitLemmas.{ends, ends_before, ends_cut}
use Rattle.survey_text.proofs.survey.Survey.put_cases.Goals as goal

pub returns-in-Err : goal.returns-in-Err
returns-in-Err g c =
    let faults = c.args.self.now.known.faults in
    ends_before c.args.over.plan.now g.before c.in-Err.stop _ _ faults (cases_of c.args.most faults) c.in-Err.ensures.visits

pub returns-in-Ok : goal.returns-in-Ok
returns-in-Ok g c =
    let faults = c.args.self.now.known.faults in
    ends c.args.over.plan.now g.before _ _ _ _ _ faults (cases_of c.args.most faults) _ c.in_default.ensures.visits c.requires.1.1.tally
    (c.len.ensures ∙ ap (λ (l : List Fault). length l) c.in_default.ensures.faults) c.in-Ok.ensures

pub returns-in-Err-put : goal.returns-in-Err-put
returns-in-Err-put g c =
    let faults = c.args.self.now.known.faults in
    ends_cut c.args.over.plan.now g.before _ _ _ _ _ faults (cases_of c.args.most faults) _ c.in_default.ensures.visits c.requires.1.1.tally
    (c.len.ensures ∙ ap (λ (l : List Fault). length l) c.in_default.ensures.faults) c.in-Err-put.ensures
