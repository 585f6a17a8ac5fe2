use Rattle.std.proofs.Common.{◌++◌}
use Rattle.std.specs.Prelude.{codes}
use Rattle.survey_reach.specs.Words.{in_word}
use Rattle.survey_text.specs.Text.{line_head, names_where}
use Rattle.text_pieces.specs.Pieces.{spaced}
use Rattle.std.proofs.lemmas.Result.{err_from_is_err_and}
use Rattle.text_lines.proofs.WrittenLemmas.{cut_first, cut_later, puts_two}
use Rattle.survey_text.proofs.relation.Relation.put_cut_line.Goals as goal

pub returns-in_err-put_head : goal.returns-in_err-put_head
returns-in_err-put_head g c =
    let p = err_from_is_err_and c.from_residual.result c.from_residual.ensures.1 in
    rw p.1 (cut_first _ _ (line_head c.args.self.of.over.plan.now c.args.self.of.service (codes "cut")) ((spaced (names_where c.args.self.of.over.plan.now g.before c.args.self.of.service (in_word c.args.self.cut) 0 c.args.self.of.over.plan.now.edges)) ++ (codes "\n")) c.in_err-put_head.ensures)

pub returns-in_err-put_sites : goal.returns-in_err-put_sites
returns-in_err-put_sites g c =
    let p = err_from_is_err_and c.from_residual-in_err-put_sites.result c.from_residual-in_err-put_sites.ensures.1 in
    rw p.1 (cut_later _ _ _ (line_head c.args.self.of.over.plan.now c.args.self.of.service (codes "cut")) _ c.in_ok-put_head.ensures (cut_first _ _ (spaced (names_where c.args.self.of.over.plan.now g.before c.args.self.of.service (in_word c.args.self.cut) 0 c.args.self.of.over.plan.now.edges)) (codes "\n") c.in_err-put_sites.ensures))

pub returns : goal.returns
returns g c =
    puts_two _ _ _ _ (line_head c.args.self.of.over.plan.now c.args.self.of.service (codes "cut")) ((spaced (names_where c.args.self.of.over.plan.now g.before c.args.self.of.service (in_word c.args.self.cut) 0 c.args.self.of.over.plan.now.edges)) ++ (codes "\n")) c.in_ok-put_head.ensures (puts_two _ _ _ _ (spaced (names_where c.args.self.of.over.plan.now g.before c.args.self.of.service (in_word c.args.self.cut) 0 c.args.self.of.over.plan.now.edges)) (codes "\n") c.in_ok-put_sites.ensures (c.put_end.ensures))
