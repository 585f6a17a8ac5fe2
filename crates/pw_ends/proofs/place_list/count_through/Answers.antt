-- The ends up to the wire's are of no later one, and each other is.
use Rattle.std.proofs.Common.{not, rules, of_calls}
use Rattle.std.proofs.lemmas.Fn.{always_returns_same}
use Rattle.pw_ends.specs.Order.{end_follows_wire}
use Rattle.pw_ends.proofs.OrderLemmas.{slots_through}
use Rattle.pw_ends.proofs.place_list.count_through.Goals as goal

pub returns-clause-through : goal.returns-clause-through
returns-clause-through c =
    let ends = c.partition_point.ensures.partitioned (λ x. not (end_follows_wire c.args.wire x)) (always_returns_same _ _ _ (λ a r f k. search (rules, of_calls))) in
    slots_through c.args.wire c.args.places.now c.partition_point.result c.requires c.partition_point.ensures.bound ends
