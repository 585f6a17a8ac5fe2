-- No owner before has the label.
use Rattle.std.proofs.Common.{◌∙◌, ap}
use Rattle.label_space.specs.Labels.{owner_of}
use Rattle.label_space.proofs.SlotLemmas.{absent_before}
use Rattle.label_space.proofs.slots.Slots.refill.Goals as goal

pub put-requires-clause-absent : goal.put-requires-clause-absent
put-requires-clause-absent c =
    ap (owner_of c.index-owners-i.result.label) c.split_at.ensures.front ∙ absent_before c.args.owners.now c.loop-i.i c.index-owners-i.result c.requires c.loop-i-test.true c.index-owners-i.is
