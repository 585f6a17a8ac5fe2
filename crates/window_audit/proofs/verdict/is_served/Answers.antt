use Rattle.std.proofs.Common.{◌∙◌, sym}
use Rattle.window_audit.proofs.VerdictLemmas.{judged, refused_again, refused_far}
use Rattle.window_audit.proofs.verdict.is_served.Goals.{then-leavings-via-then-leavings, then-leavings-via-else-leavings+then-leavings-2}
use Rattle.window_audit.proofs.verdict.is_served.Goals as goal

pub returns-then-leavings : goal.returns-then-leavings
returns-then-leavings c = λ trace known. elim c.then-leavings.branch [
  | then-leavings-via-then-leavings w ↦ refused_again c.args.plan.now trace c.args.window.now c.args.exits.now known (sym c.leavings-leavings.ensures.again ∙ w.if-leavings.true)
  | then-leavings-via-else-leavings+then-leavings-2 w ↦ refused_far c.args.plan.now trace c.args.window.now c.args.exits.now known (sym c.leavings-leavings.ensures.far ∙ w.if-leavings-2.true)
]

pub returns : goal.returns
returns c = λ trace known. judged c.args.plan.now trace c.args.window.now c.args.exits.now c.leavings-leavings.result.at c.is_at_sites.result c.requires known
    (sym c.leavings-leavings.ensures.again ∙ c.if-leavings.false) (sym c.leavings-leavings.ensures.far ∙ c.if-leavings-2.false) c.leavings-leavings.ensures.at c.is_at_sites.ensures
