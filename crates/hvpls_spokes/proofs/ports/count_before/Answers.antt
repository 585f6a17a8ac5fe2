-- The ports before that of this name come before it, and no other does.
use Rattle.std.proofs.Common.{rules, of_calls}
use Rattle.std.proofs.lemmas.Fn.{always_returns_same}
use Rattle.hvpls_spokes.specs.Port.{precedes}
use Rattle.hvpls_spokes.proofs.OrderLemmas.{named_behind}
use Rattle.hvpls_spokes.proofs.ports.count_before.Goals as goal

pub returns : goal.returns
returns c =
    let ends = c.partition_point.ensures.partitioned (precedes c.args.name) (always_returns_same _ _ _ (λ a r f k. search (rules, of_calls))) in
    named_behind c.args.name c.args.ports.now c.partition_point.result c.requires c.partition_point.ensures.bound ends
