use Rattle.std.proofs.Common.{◌∙◌, Bool, false, List, Option, length, rules, subst, sym}
use Rattle.net_base.specs.declared.plan.places.EdgeId.{EdgeId}
use Rattle.survey_reach.specs.Reach.{AreCores, would_be_sound}
use Rattle.survey_reach.specs.Rows.{IsFilled}
use Rattle.survey_reach.proofs.HomeLemmas.{reached}
use Rattle.survey_reach.proofs.reach.Reaching.of.Goals as goal

pub returns-clause-reach : goal.returns-clause-reach
returns-clause-reach g c =
    reached c.args.failed.plan.now g.before c.args.failed.faults.now c.args.shape.now.service c.as_slice.result.now c.as_slice-2.result.now c.meshes-meshes.result c.rows.result
    (subst (λ (s : List Bool). IsFilled (would_be_sound c.args.failed.plan.now g.before c.args.failed.faults.now) false (length c.args.failed.plan.now.wires) s)
    (sym (c.as_slice.ensures.value ∙ c.fill_cores.ensures.sound)) (search rules))
    (subst (λ (l : List (Option EdgeId)). AreCores c.args.failed.plan.now g.before c.args.failed.faults.now c.args.shape.now.service (length c.args.failed.plan.now.edges) l)
    (sym c.as_slice-2.ensures.value) c.in_ok-fill_cores.ensures.cores)
    c.meshes-meshes.ensures c.rows.ensures
