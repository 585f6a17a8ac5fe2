-- The labels before the place are less, and those from it on are not.
use Rattle.std.proofs.Common.{rules, nat_lt, arith}
use Rattle.std.proofs.lemmas.List.Sorted.{IsPartitionPoint-from_clause}
use Rattle.label_space.specs.Labels.{owned_label}
use Rattle.label_space.proofs.OrderLemmas.{insert_put, parted}
use Rattle.label_space.proofs.search.place_of.Goals as goal

pub returns-clause-place : goal.returns-clause-place
returns-clause-place c = λ new is.
    let point = IsPartitionPoint-from_clause (λ k. nat_lt k.label c.args.label) _ _ c.partition_point.ensures.partitioned
    (parted owned_label c.args.label 0 c.args.owners.now c.requires) (λ a r q k. search rules) in
    insert_put owned_label new c.args.owners.now c.partition_point.result c.partition_point.ensures.bound (λ k d less. rw is (point.0 k d (omega arith) less))
    (λ k d low high. rw is (point.1 k d low high))
