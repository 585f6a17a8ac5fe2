use Rattle.std.proofs.Common.{List, rules}
use Rattle.std.proofs.lemmas.List.{at_drop_all}
use Rattle.net_base.specs.declared.plan.circuit_plan.CircuitPlan.{CircuitPlan}
use Rattle.survey_text.specs.Text.{names_at}
use Rattle.text_pieces.specs.Pieces.{spaced}
use Rattle.survey_text.proofs.SiteLemmas.{names_step}
use Rattle.std.proofs.lemmas.Result.{err_from_is_err_and}
use Rattle.text_lines.proofs.WrittenLemmas.{putting_all, putting_cut, putting_more, putting_none}
use Rattle.survey_text.proofs.sites.put_at.Goals as goal

pub loop-circuit-init : goal.loop-circuit-init
loop-circuit-init g c = putting_none _ _

pub returns-in_err-put_site : goal.returns-in_err-put_site
returns-in_err-put_site g c =
    let p = err_from_is_err_and c.from_residual.result c.from_residual.ensures.1 in
    rw p.1 (putting_cut _ _ _ _ _ _ _ (names_step g.before c.args.of.service c.args.edge c.loop-circuit.circuit c.loop-circuit.circuit c.args.of.over.plan.now.circuits (search rules)) c.loop-circuit.invariant c.in_err-put_site.ensures)

pub loop-circuit-preserved : goal.loop-circuit-preserved
loop-circuit-preserved g c = putting_more _ _ _ _ _ _ _ (names_step g.before c.args.of.service c.args.edge c.loop-circuit.circuit c.loop-circuit.circuit c.args.of.over.plan.now.circuits (search rules)) c.loop-circuit.invariant c.in_ok-put_site.ensures

pub returns : goal.returns
returns g c = putting_all _ _ _ _ (at_drop_all (λ (rows : List CircuitPlan). spaced (names_at g.before c.args.of.service c.args.edge c.loop-circuit.circuit rows)) c.args.of.over.plan.now.circuits c.loop-circuit.circuit (search rules)) c.loop-circuit.invariant
