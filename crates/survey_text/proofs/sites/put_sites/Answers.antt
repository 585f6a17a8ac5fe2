use Rattle.std.proofs.Common.{List, rules}
use Rattle.std.proofs.lemmas.List.{at_drop_all}
use Rattle.net_base.specs.declared.plan.edge_plan.EdgePlan.{EdgePlan}
use Rattle.survey_reach.specs.Words.{in_word}
use Rattle.survey_text.specs.Text.{names_where}
use Rattle.text_pieces.specs.Pieces.{spaced}
use Rattle.survey_text.proofs.SiteLemmas.{where_step}
use Rattle.std.proofs.lemmas.Result.{err_from_is_err_and}
use Rattle.text_lines.proofs.WrittenLemmas.{putting_all, putting_cut, putting_more, putting_none}
use Rattle.survey_text.proofs.sites.put_sites.Goals as goal

pub loop-edge-init : goal.loop-edge-init
loop-edge-init g c = putting_none _ _

pub returns-in_err-put_if : goal.returns-in_err-put_if
returns-in_err-put_if g c =
    let p = err_from_is_err_and c.from_residual.result c.from_residual.ensures.1 in
    rw p.1 (putting_cut _ _ _ _ _ _ _ (where_step c.args.of.over.plan.now g.before c.args.of.service (in_word c.args.edges) c.loop-edge.edge c.loop-edge.edge c.args.of.over.plan.now.edges (search rules)) c.loop-edge.invariant c.in_err-put_if.ensures)

pub loop-edge-preserved : goal.loop-edge-preserved
loop-edge-preserved g c = putting_more _ _ _ _ _ _ _ (where_step c.args.of.over.plan.now g.before c.args.of.service (in_word c.args.edges) c.loop-edge.edge c.loop-edge.edge c.args.of.over.plan.now.edges (search rules)) c.loop-edge.invariant c.in_ok-put_if.ensures

pub returns : goal.returns
returns g c = putting_all _ _ _ _ (at_drop_all (λ (rows : List EdgePlan). spaced (names_where c.args.of.over.plan.now g.before c.args.of.service (in_word c.args.edges) c.loop-edge.edge rows)) c.args.of.over.plan.now.edges c.loop-edge.edge (search rules)) c.loop-edge.invariant
