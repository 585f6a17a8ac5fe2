-- One owner less, or none where the label has no slot.
use Rattle.std.proofs.Common.{rules, ◌≡◌, Some, None, nat_eq}
use Rattle.indexmap.specs.IndexMap as map
use Rattle.label_space.proofs.SlotLemmas.{step_taken, step_stays}
use Rattle.label_space.proofs.slots.Slots.take_one.Goals as goal

pub returns-in-Some : goal.returns-in-Some
returns-in-Some c =
    let some : map.get nat_eq c.args.self.now.index c.args.label ≡ Some c.in-Some.slot = search rules in
    step_taken c.args.self.now.slab c.try_remove.new.self c.args.self.now.index c.swap_remove.new.self c.args.owners.now c.args.label c.in-Some.slot c.requires some c.try_remove.ensures.updates (search rules)

pub returns-in_default : goal.returns-in_default
returns-in_default c =
    let none : map.get nat_eq c.args.self.now.index c.args.label ≡ None = search rules in
    step_stays c.args.self.now.slab c.args.self.now.index c.swap_remove.new.self c.args.owners.now c.args.label c.requires none (search rules)
