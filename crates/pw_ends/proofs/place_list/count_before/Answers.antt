-- The ends before the wire's are of earlier wires, and no other is.
use Rattle.std.proofs.Common.{rules, of_calls}
use Rattle.std.proofs.lemmas.Fn.{always_returns_same}
use Rattle.pw_ends.specs.Order.{end_precedes_wire}
use Rattle.pw_ends.proofs.BesideLemmas.{beside_behind}
use Rattle.pw_ends.proofs.OrderLemmas.{of_wire_behind, slots_before, terminal_behind}
use Rattle.pw_ends.proofs.place_list.count_before.Goals as goal

pub returns-clause-wire : goal.returns-clause-wire
returns-clause-wire c =
    let ends = c.partition_point.ensures.partitioned (end_precedes_wire c.args.wire) (always_returns_same _ _ _ (λ a r f k. search (rules, of_calls))) in
    of_wire_behind c.args.wire c.args.places.now c.partition_point.result c.requires c.partition_point.ensures.bound ends

pub returns-clause-terminal : goal.returns-clause-terminal
returns-clause-terminal c =
    let ends = c.partition_point.ensures.partitioned (end_precedes_wire c.args.wire) (always_returns_same _ _ _ (λ a r f k. search (rules, of_calls))) in
    terminal_behind c.args.wire c.args.places.now c.partition_point.result c.requires c.partition_point.ensures.bound ends

pub returns-clause-beside : goal.returns-clause-beside
returns-clause-beside c = λ peer.
    let ends = c.partition_point.ensures.partitioned (end_precedes_wire c.args.wire) (always_returns_same _ _ _ (λ a r f k. search (rules, of_calls))) in
    beside_behind c.args.wire peer c.args.places.now c.partition_point.result c.requires c.partition_point.ensures.bound ends

pub returns-clause-before : goal.returns-clause-before
returns-clause-before c =
    let ends = c.partition_point.ensures.partitioned (end_precedes_wire c.args.wire) (always_returns_same _ _ _ (λ a r f k. search (rules, of_calls))) in
    slots_before c.args.wire c.args.places.now c.partition_point.result c.requires c.partition_point.ensures.bound ends
