-- The lines over words are those over relations.
use Rattle.std.proofs.Common.{◌∙◌, [], rules}
use Rattle.survey_reach.specs.Words.{has_pair, in_word}
use Rattle.survey_text.specs.Surveys.{IsLeft}
use Rattle.survey_text.specs.Text.{found_text, lost_text, relation_text}
use Rattle.text_lines.proofs.WrittenLemmas.{cut_first, puts_two}
use Rattle.survey_text.proofs.TextLemmas.{found_lines, puts_same}
use Rattle.survey_text.proofs.service.Service.put_change.Goals as goal

pub returns-in-Ok : goal.returns-in-Ok
returns-in-Ok g c =
    let plan = c.args.over.plan.now in
    let service = c.args.self.now.shape.service in
    let change : IsLeft plan g.case.before service g.case.faults [] c.args.change.now = search rules in
    puts_two _ _ _ _ (lost_text plan g.case.before g.case.faults service) (found_text plan g.case.before g.case.faults service) c.in-Ok.ensures
    (puts_same _ _ _ _ _
    ((λ i. relation_text (c.relation.ensures.of i).over.plan.now g.case.before (c.relation.ensures.of i).service (c.relation.ensures.word i) (has_pair (c.relation.ensures.pairs i)) (in_word (c.relation.ensures.cut i)))
    ∙ found_lines plan g.case.before g.case.faults service c.args.change.now.found change.found) c.put.ensures)

pub returns-in-Err : goal.returns-in-Err
returns-in-Err g c =
    let plan = c.args.over.plan.now in
    let service = c.args.self.now.shape.service in
    cut_first _ _ (lost_text plan g.case.before g.case.faults service) (found_text plan g.case.before g.case.faults service) c.in-Err.ensures
