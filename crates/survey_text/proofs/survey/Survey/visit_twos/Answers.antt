-- The cases of one more fault are done.
use Rattle.std.proofs.Common.{◌<◌, ◌≤◌, ◌+◌, ◌++◌, ◌∙◌, [], ◌∷◌, List, ap, arith, drop, length, refl, rules}
use Rattle.std.proofs.lemmas.List.{at_drop_all}
use Rattle.survey_laws.specs.declared.fault.Fault.{Fault}
use Rattle.survey_text.specs.Cases.{pairs, with_one}
use Rattle.survey_text.specs.Surveys.{fault_in}
use Rattle.survey_text.proofs.VisitLemmas.{none_later, one_more, pair_more, stops_known, visiting_all, visiting_as, visiting_more, visiting_none, visiting_stops}
use Rattle.survey_text.proofs.survey.Survey.visit_twos.Goals as goal

pub loop-first-init : goal.loop-first-init
loop-first-init g c = record { visiting = visiting_none _ _ _ _ _; known = refl }

pub loop-second-init : goal.loop-second-init
loop-second-init g c =
    let faults : List Fault = c.args.self.now.known.faults in
    let within : c.loop-first.first < length faults = search (rules, arith) in
    record { visiting = visiting_as _ _ _ _ _ _ _ _ _ (pair_more faults c.loop-first.first within) c.loop-first.invariant.visiting; known = c.loop-first.invariant.known }

pub returns-in-Err-clause-visits : goal.returns-in-Err-clause-visits
returns-in-Err-clause-visits g c =
    let faults : List Fault = c.args.self.now.known.faults in
    let within : c.loop-second.second < length faults = search (rules, arith) in
    visiting_stops _ _ c.in-Err.stop _ _ _ _ _ _ ((fault_in faults c.loop-first.first ∷ fault_in faults c.loop-second.second ∷ []) ∷ [])
    (with_one (fault_in faults c.loop-first.first ∷ []) (drop (c.loop-second.second + 1) faults) ++ pairs (drop (c.loop-first.first + 1) faults)) _
    (ap (λ (l : List (List Fault)). l ++ pairs (drop (c.loop-first.first + 1) faults)) (one_more (fault_in faults c.loop-first.first ∷ []) faults c.loop-second.second within))
    c.loop-second.invariant.visiting
    (stops_known c.args.over.plan.now g.before c.in-Err.stop _ _ c.loop-second.self.known c.args.self.now.known (c.loop-first.first ∷ c.loop-second.second ∷ []) c.loop-second.invariant.known c.in-Err.ensures.visits)

pub loop-second-preserved : goal.loop-second-preserved
loop-second-preserved g c =
    let faults : List Fault = c.args.self.now.known.faults in
    let within : c.loop-second.second < length faults = search (rules, arith) in
    record {
      visiting = visiting_more _ _ _ _ _ _ _ _ _ _ _ _
          (ap (λ (l : List (List Fault)). l ++ pairs (drop (c.loop-first.first + 1) faults)) (one_more (fault_in faults c.loop-first.first ∷ []) faults c.loop-second.second within))
          c.loop-second.invariant.visiting (rw c.loop-second.invariant.known at c.in_default.ensures.visits);
      known = c.in_default.ensures.known ∙ c.loop-second.invariant.known;
    }

pub loop-first-preserved : goal.loop-first-preserved
loop-first-preserved g c =
    let faults : List Fault = c.args.self.now.known.faults in
    let past : length faults ≤ c.loop-second.second = search (rules, arith) in
    record {
      visiting = visiting_as _ _ _ _ _ _ _ _ _ (none_later (with_one (fault_in faults c.loop-first.first ∷ [])) faults c.loop-second.second (pairs (drop (c.loop-first.first + 1) faults)) refl past)
          c.loop-second.invariant.visiting;
      known = c.loop-second.invariant.known;
    }

pub returns-clause-visits : goal.returns-clause-visits
returns-clause-visits g c =
    visiting_all _ _ _ _ _ _ _ _ (at_drop_all (λ (rest : List Fault). pairs rest) c.args.self.now.known.faults c.loop-first.first (search (rules, arith))) c.loop-first.invariant.visiting
