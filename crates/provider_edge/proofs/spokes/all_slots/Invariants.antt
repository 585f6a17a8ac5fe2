use Rattle.provider_edge.specs.Spokes.{AreSlots}
use Rattle.provider_edge.proofs.spokes.all_slots.Given as goal

abbrev pub invariant-loop-service : goal.invariant-loop-service
invariant-loop-service l = AreSlots l.plan l.me l.places l.service l.slots.items
