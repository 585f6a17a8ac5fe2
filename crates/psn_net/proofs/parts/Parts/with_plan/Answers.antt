use Rattle.std.proofs.Common.{◌≡◌, length, refl, rules, subst}
use Rattle.net_base.specs.declared.plan.Plan.{Plan}
use Rattle.psn_net.specs.Lists.{AreOpen}
use Rattle.psn_net.proofs.NetworkLemmas.{opened_network, opened_state}
use Rattle.psn_net.proofs.parts.Parts.with_plan.Goals as goal

pub invariant_of-result : goal.invariant_of-result
invariant_of-result c =
    let count : c.len-count.result ≡ length c.args.plan.edges = search rules in
    opened_network c.args.plan _ _ _ _ _ _ c.requires refl count (subst (λ (p : Plan). AreOpen p c.len-count.result c.in-Ok.edges.items) c.shared.ensures c.in-Ok.ensures) c.in_ok-pipes.ensures.size
    c.new.ensures

pub returns-in-Ok-clause-state : goal.returns-in-Ok-clause-state
returns-in-Ok-clause-state c =
    let count : c.len-count.result ≡ length c.args.plan.edges = search rules in
    opened_state c.args.plan _ _ _ _ _ _ refl count (subst (λ (p : Plan). AreOpen p c.len-count.result c.in-Ok.edges.items) c.shared.ensures c.in-Ok.ensures) c.in_ok-pipes.ensures.empty
    c.new.ensures c.in_ok-ledger.ensures
