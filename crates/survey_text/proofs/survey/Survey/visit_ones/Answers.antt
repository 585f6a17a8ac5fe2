-- The case of one more fault is done.
use Rattle.std.proofs.Common.{◌<◌, ◌+◌, ◌∙◌, [], ◌∷◌, List, drop, length, refl, rules}
use Rattle.std.proofs.lemmas.List.{at_drop_all}
use Rattle.survey_laws.specs.declared.fault.Fault.{Fault}
use Rattle.survey_text.specs.Cases.{with_one}
use Rattle.survey_text.specs.Surveys.{fault_in}
use Rattle.survey_text.proofs.VisitLemmas.{one_more_of, visiting_all, visiting_more, visiting_none, visiting_stops}
use Rattle.survey_text.proofs.survey.Survey.visit_ones.Goals as goal

pub loop-place-init : goal.loop-place-init
loop-place-init g c = record { visiting = visiting_none _ _ _ _ _; known = c.requires.1.1; faults = refl }

pub returns-in-Err-clause-visits : goal.returns-in-Err-clause-visits
returns-in-Err-clause-visits g c =
    let faults : List Fault = c.args.self.now.known.faults in
    let within : c.loop-place.place < length faults = search rules in
    visiting_stops _ _ c.in-Err.stop _ _ _ _ _ _ ((fault_in c.loop-place.self.known.faults c.loop-place.place ∷ []) ∷ []) (with_one [] (drop (c.loop-place.place + 1) faults)) _
    (one_more_of [] c.loop-place.self.known.faults faults c.loop-place.place c.loop-place.invariant.faults within) c.loop-place.invariant.visiting c.in-Err.ensures.visits

pub loop-place-preserved : goal.loop-place-preserved
loop-place-preserved g c =
    let faults : List Fault = c.args.self.now.known.faults in
    let within : c.loop-place.place < length faults = search rules in
    record {
      visiting = visiting_more _ _ _ _ _ _ _ _ _ _ _ _ (one_more_of [] c.loop-place.self.known.faults faults c.loop-place.place c.loop-place.invariant.faults within)
          c.loop-place.invariant.visiting c.in_default.ensures.visits;
      known = c.in_default.ensures.known;
      faults = c.in_default.ensures.faults ∙ c.loop-place.invariant.faults;
    }

pub returns-clause-visits : goal.returns-clause-visits
returns-clause-visits g c =
    visiting_all _ _ _ _ _ _ _ _ (at_drop_all (λ (rest : List Fault). with_one [] rest) c.args.self.now.known.faults c.loop-place.place (search rules)) c.loop-place.invariant.visiting
