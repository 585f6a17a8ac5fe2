use Rattle.std.proofs.Common.{◌≡◌, replicate}
use Rattle.psn_net.proofs.IndexLemmas.{cleared, cleared_within}
use Rattle.psn_net.proofs.pair_index.PairIndex.open.Goals as goal

pub invariant_of-result : goal.invariant_of-result
invariant_of-result c =
    let is : c.in_ok-rows.rows.items ≡ replicate c.args.size 0 = c.in_ok-rows.ensures.items_if_clones_equal (λ y same. same) in
    cleared_within c.in_ok-rows.rows.items c.args.size c.requires is

pub returns-clause-none : goal.returns-clause-none
returns-clause-none c = cleared c.in_ok-rows.rows.items c.args.size (c.in_ok-rows.ensures.items_if_clones_equal (λ y same. same))
