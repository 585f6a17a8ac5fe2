use Rattle.std.proofs.Common.{◌++◌}
use Rattle.survey_text.specs.Text.{apart_text, off_line, service_line}
use Rattle.std.proofs.lemmas.Result.{err_from_is_err_and}
use Rattle.text_lines.proofs.WrittenLemmas.{cut_first, cut_later, puts_two}
use Rattle.survey_text.proofs.service.Service.put.Goals as goal

pub returns-in_err-put_line : goal.returns-in_err-put_line
returns-in_err-put_line g c =
    let p = err_from_is_err_and c.from_residual.result c.from_residual.ensures.1 in
    rw p.1 (cut_first _ _ (service_line c.args.over.plan.now g.before c.args.self.now.shape.service) ((off_line c.args.over.plan.now g.before c.args.self.now.shape.service) ++ (apart_text c.args.over.plan.now g.before c.args.self.now.shape.service)) c.in_err-put_line.ensures)

pub returns-in_err-put_off : goal.returns-in_err-put_off
returns-in_err-put_off g c =
    let p = err_from_is_err_and c.from_residual-in_err-put_off.result c.from_residual-in_err-put_off.ensures.1 in
    rw p.1 (cut_later _ _ _ (service_line c.args.over.plan.now g.before c.args.self.now.shape.service) _ c.in_ok-put_line.ensures (cut_first _ _ (off_line c.args.over.plan.now g.before c.args.self.now.shape.service) (apart_text c.args.over.plan.now g.before c.args.self.now.shape.service) c.in_err-put_off.ensures))

pub returns : goal.returns
returns g c =
    puts_two _ _ _ _ (service_line c.args.over.plan.now g.before c.args.self.now.shape.service) ((off_line c.args.over.plan.now g.before c.args.self.now.shape.service) ++ (apart_text c.args.over.plan.now g.before c.args.self.now.shape.service)) c.in_ok-put_line.ensures (puts_two _ _ _ _ (off_line c.args.over.plan.now g.before c.args.self.now.shape.service) (apart_text c.args.over.plan.now g.before c.args.self.now.shape.service) c.in_ok-put_off.ensures (c.put_apart.ensures))
