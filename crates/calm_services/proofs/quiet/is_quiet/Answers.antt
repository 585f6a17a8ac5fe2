use Rattle.std.proofs.Common.{◌≡◌, ◌<◌, ◌||◌, ◌∙◌, ℕ, true, ap, arith, length, subst, sym}
use Rattle.std.specs.Prelude.{not}
use Rattle.net_base.specs.declared.plan.Plan.{Plan}
use Rattle.net_base.specs.plan.Roles.{all_below}
use Rattle.calm_services.specs.EdgePairs.{AreJoined, has_pair}
use Rattle.calm_services.proofs.CalmLemmas.{below_fails, quiet_by}
use Rattle.calm_services.proofs.quiet.is_quiet.Goals as goal

pub returns-then-not-are_settled_beside : goal.returns-then-not-are_settled_beside
returns-then-not-are_settled_beside g c =
    let plan = g.N.PlannedNetwork.plan c.args.network.now in
    let settled = g.N.PlannedNetwork.settled c.args.network.now in
    let within : c.loop-a.a < length plan.edges = omega (arith, c.loop-a-test.true, c.len-count.ensures, ap (λ (p : Plan). length p.edges) c.plan-2.ensures.plan) in
    sym (below_fails (λ a. all_below (length plan.edges) (λ b. not (has_pair c.joined-pairs.result a b) || settled a b)) (length plan.edges) c.loop-a.a within (sym c.if-not-are_settled_beside.ensures))
    ∙ quiet_by plan settled c.args.service c.joined-pairs.result c.plan.ensures.limits (subst (λ (p : Plan). AreJoined p c.args.service c.joined-pairs.result) c.plan.ensures.plan c.joined-pairs.ensures)

pub returns : goal.returns
returns g c =
    let plan = g.N.PlannedNetwork.plan c.args.network.now in
    let settled = g.N.PlannedNetwork.settled c.args.network.now in
    let all : c.loop-a.a ≡ length plan.edges = omega (arith, c.loop-a-test.false, c.loop-a.auto.a-end, c.len-count.ensures, ap (λ (p : Plan). length p.edges) c.plan-2.ensures.plan) in
    sym (subst (λ (n : ℕ). all_below n (λ a. all_below (length plan.edges) (λ b. not (has_pair c.joined-pairs.result a b) || settled a b)) ≡ true) all c.loop-a.invariant)
    ∙ quiet_by plan settled c.args.service c.joined-pairs.result c.plan.ensures.limits (subst (λ (p : Plan). AreJoined p c.args.service c.joined-pairs.result) c.plan.ensures.plan c.joined-pairs.ensures)
