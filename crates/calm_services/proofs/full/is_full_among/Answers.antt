use Rattle.std.proofs.Common.{◌≡◌, ◌==◌, ◌&&◌, ◌||◌, ◌∙◌, ℕ, ap, length}
use Rattle.std.specs.Prelude.{not}
use Rattle.net_base.specs.declared.plan.Plan.{Plan}
use Rattle.calm_services.specs.Calm.{all_pairs}
use Rattle.calm_services.specs.EdgePairs.{has_pair, is_core_of}
use Rattle.calm_services.proofs.CalmLemmas.{full_by}
use Rattle.calm_services.proofs.full.is_full_among.Goals as goal

pub returns : goal.returns
returns g c =
    let plan = g.N.PlannedNetwork.plan c.args.network.now in
    let count : c.len.result ≡ length plan.edges = c.len.ensures ∙ ap (λ (p : Plan). length p.edges) c.plan.ensures.plan in
    c.are_meshed.ensures
    ∙ (ap (λ (n : ℕ). all_pairs n (λ a b. not (is_core_of c.args.edges.now a && is_core_of c.args.edges.now b) || (a == b || has_pair c.meshed-pairs.result a b))) count
    ∙ full_by plan (g.N.PlannedNetwork.carries c.args.network.now) c.args.service c.args.edges.now c.meshed-pairs.result c.plan.ensures.limits c.requires c.meshed-pairs.ensures)
