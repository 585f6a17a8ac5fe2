use Rattle.std.proofs.Common.{◌++◌}
use Rattle.std.specs.Prelude.{codes}
use Rattle.survey_text.specs.Text.{line_head, names_off}
use Rattle.text_pieces.specs.Pieces.{spaced}
use Rattle.std.proofs.lemmas.Result.{err_from_is_err_and}
use Rattle.text_lines.proofs.WrittenLemmas.{cut_first, cut_later, puts_two}
use Rattle.survey_text.proofs.off.put_line.Goals as goal

pub returns-in_err-put_head : goal.returns-in_err-put_head
returns-in_err-put_head g c =
    let p = err_from_is_err_and c.from_residual.result c.from_residual.ensures.1 in
    rw p.1 (cut_first _ _ (line_head c.args.of.over.plan.now c.args.of.service (codes "off")) ((spaced (names_off g.before c.args.of.service 0 c.args.of.over.plan.now.circuits)) ++ (codes "\n")) c.in_err-put_head.ensures)

pub returns-in_err-put_names : goal.returns-in_err-put_names
returns-in_err-put_names g c =
    let p = err_from_is_err_and c.from_residual-in_err-put_names.result c.from_residual-in_err-put_names.ensures.1 in
    rw p.1 (cut_later _ _ _ (line_head c.args.of.over.plan.now c.args.of.service (codes "off")) _ c.in_ok-put_head.ensures (cut_first _ _ (spaced (names_off g.before c.args.of.service 0 c.args.of.over.plan.now.circuits)) (codes "\n") c.in_err-put_names.ensures))

pub returns : goal.returns
returns g c =
    puts_two _ _ _ _ (line_head c.args.of.over.plan.now c.args.of.service (codes "off")) ((spaced (names_off g.before c.args.of.service 0 c.args.of.over.plan.now.circuits)) ++ (codes "\n")) c.in_ok-put_head.ensures (puts_two _ _ _ _ (spaced (names_off g.before c.args.of.service 0 c.args.of.over.plan.now.circuits)) (codes "\n") c.in_ok-put_names.ensures (c.put_end.ensures))
