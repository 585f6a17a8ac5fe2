use Rattle.std.proofs.Common.{◌≡◌, [], ◌∷◌, List, length, rules, subst, sym}
use Rattle.survey_laws.specs.declared.fault.Fault.{Fault}
use Rattle.survey_text.specs.Cases.{pairs_of}
use Rattle.survey_text.specs.Surveys.{LeavesAll}
use Rattle.survey_text.proofs.LeftLemmas.{three_left}
use Rattle.survey_text.proofs.PartLemmas.{three_are}
use Rattle.survey_text.proofs.work.Work.leave_pairs.Goals as goal

pub returns-clause-left : goal.returns-clause-left
returns-clause-left g c =
    let faults : List Fault = c.args.self.now.faults.items in
    let one : Fault = c.index-one.result.now in
    let other : Fault = c.index-other.result.now in
    let last : Fault = c.index-last.result.now in
    let three : length faults ≡ 3 = search rules in
    subst (λ (l : List Fault). LeavesAll c.args.over.plan.now g.before (pairs_of l) c.args.self.now.left.items c.leave_two-3.new.self.left.items)
    (sym (three_are faults one other last three c.index-one.ensures c.index-other.ensures c.index-last.ensures))
    (three_left c.args.over.plan.now g.before (other ∷ last ∷ []) (one ∷ last ∷ []) (one ∷ other ∷ []) c.args.self.now.left.items c.leave_two.new.self.left.items c.leave_two-2.new.self.left.items
    c.leave_two-3.new.self.left.items c.in_ok-leave_two.ensures.left c.in_ok-leave_two-2.ensures.left c.in_ok-leave_two-3.ensures.left)
