-- One more owner, in a slot that was vacant.
use Rattle.std.proofs.Common.{rules}
use Rattle.std.specs.Prelude.{nat_eq, Some}
use Rattle.indexmap.specs.IndexMap as map
use Rattle.label_space.proofs.SlotLemmas.{step_added}
use Rattle.label_space.proofs.slots.Slots.put.Goals as goal

pub returns-then-len-capacity-2 : goal.returns-then-len-capacity-2
returns-then-len-capacity-2 c =
    let mapped : map.Updates nat_eq c.args.self.now.index c.insert.new.self c.args.owner.label (Some c.insert_reserved-slot.result) = search rules in
    step_added c.args.self.now.slab c.insert_reserved-slot.new.self c.args.self.now.index c.insert.new.self c.args.owners.now c.args.owner c.insert_reserved-slot.result c.requires.step c.requires.absent c.insert_reserved-slot.ensures.was_vacant c.insert_reserved-slot.ensures.updates mapped
