-- The owners before the place are in.
use Rattle.std.proofs.Common.{take}
use Rattle.label_space.specs.Slots.{AreLabelSlots}
use Rattle.label_space.proofs.slots.Slots.refill.Given as goal

abbrev pub invariant-loop-i : goal.invariant-loop-i
invariant-loop-i l = AreLabelSlots l.self.slab l.self.index (take l.i l.owners)
