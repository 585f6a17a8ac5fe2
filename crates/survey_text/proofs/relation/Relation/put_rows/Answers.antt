use Rattle.std.proofs.Common.{List, rules}
use Rattle.std.proofs.lemmas.List.{at_drop_all}
use Rattle.net_base.specs.declared.plan.edge_plan.EdgePlan.{EdgePlan}
use Rattle.survey_reach.specs.Words.{has_pair, in_word}
use Rattle.survey_text.specs.Text.{are_left, row_lines}
use Rattle.survey_text.proofs.SiteLemmas.{rows_step}
use Rattle.std.proofs.lemmas.Result.{err_from_is_err_and}
use Rattle.text_lines.proofs.WrittenLemmas.{putting_all, putting_cut, putting_more, putting_none}
use Rattle.survey_text.proofs.relation.Relation.put_rows.Goals as goal

pub loop-edge-init : goal.loop-edge-init
loop-edge-init g c = putting_none _ _

pub returns-in_err-put_row : goal.returns-in_err-put_row
returns-in_err-put_row g c =
    let p = err_from_is_err_and c.from_residual.result c.from_residual.ensures.1 in
    rw p.1 (putting_cut _ _ _ _ _ _ _ (rows_step c.args.self.of.over.plan.now g.before c.args.self.of.service c.args.self.word.now (are_left (has_pair c.args.self.pairs.now) (in_word c.args.self.cut)) c.loop-edge.edge c.loop-edge.edge c.args.self.of.over.plan.now.edges (search rules)) c.loop-edge.invariant c.in_err-put_row.ensures)

pub loop-edge-preserved : goal.loop-edge-preserved
loop-edge-preserved g c = putting_more _ _ _ _ _ _ _ (rows_step c.args.self.of.over.plan.now g.before c.args.self.of.service c.args.self.word.now (are_left (has_pair c.args.self.pairs.now) (in_word c.args.self.cut)) c.loop-edge.edge c.loop-edge.edge c.args.self.of.over.plan.now.edges (search rules)) c.loop-edge.invariant c.in_ok-put_row.ensures

pub returns : goal.returns
returns g c = putting_all _ _ _ _ (at_drop_all (λ (rows : List EdgePlan). row_lines c.args.self.of.over.plan.now g.before c.args.self.of.service c.args.self.word.now (are_left (has_pair c.args.self.pairs.now) (in_word c.args.self.cut)) c.loop-edge.edge rows) c.args.self.of.over.plan.now.edges c.loop-edge.edge (search rules)) c.loop-edge.invariant
