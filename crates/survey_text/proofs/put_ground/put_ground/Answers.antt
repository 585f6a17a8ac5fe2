use Rattle.survey_text.specs.Text.{label_lines, service_texts}
use Rattle.text_lines.proofs.WrittenLemmas.{cut_first, puts_two}
use Rattle.survey_text.proofs.put_ground.put_ground.Goals as goal

pub returns-in-Ok : goal.returns-in-Ok
returns-in-Ok g c = puts_two _ _ _ _ (service_texts c.args.over.plan.now g.before 0 c.args.over.plan.now.services) (label_lines c.args.over.plan.now g.before 0 c.args.over.plan.now.edges) c.in-Ok.ensures c.put_labels.ensures

pub returns-in-Err : goal.returns-in-Err
returns-in-Err g c = cut_first _ _ (service_texts c.args.over.plan.now g.before 0 c.args.over.plan.now.services) (label_lines c.args.over.plan.now g.before 0 c.args.over.plan.now.edges) c.in-Err.ensures
