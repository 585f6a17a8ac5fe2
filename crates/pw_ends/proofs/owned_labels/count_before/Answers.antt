-- The labels before the place are smaller, and no other is.
use Rattle.std.proofs.Common.{rules, of_calls, arith}
use Rattle.std.proofs.lemmas.Fn.{always_returns_same}
use Rattle.std.proofs.lemmas.List.Sorted.{IsPartitionPoint-from_clause}
use Rattle.label_space.proofs.OrderLemmas.{insert_put, parted}
use Rattle.pw_ends.specs.Owned.{is_earlier, label_in}
use Rattle.pw_ends.proofs.OwnedLemmas.{label_behind}
use Rattle.pw_ends.proofs.owned_labels.count_before.Goals as goal

pub returns-clause-place : goal.returns-clause-place
returns-clause-place c = λ new is.
    let point = IsPartitionPoint-from_clause (is_earlier c.args.number) _ _ c.partition_point.ensures.partitioned (parted label_in c.args.number 0 c.args.labels.now c.requires)
    (λ a r q k. search rules) in
    insert_put label_in new c.args.labels.now c.partition_point.result c.partition_point.ensures.bound (λ k d less. rw is (point.0 k d (omega arith) less))
    (λ k d low high. rw is (point.1 k d low high))

pub returns-clause-found : goal.returns-clause-found
returns-clause-found c =
    let ends = c.partition_point.ensures.partitioned (is_earlier c.args.number) (always_returns_same _ _ _ (λ a r f k. search (rules, of_calls))) in
    label_behind c.args.number c.args.labels.now c.partition_point.result c.requires c.partition_point.ensures.bound ends
