-- Each slot is that of an end. One more spoke is compared, until all of the service are.
use Rattle.edge_model.specs.Spokes.{spoke_at}
use Rattle.pw_ends.specs.Ends.{place_of}
use Rattle.provider_edge.proofs.SpokeLemmas.{least_all, least_next, slot_below}
use Rattle.provider_edge.specs.Lists.{seen}
use Rattle.provider_edge.proofs.edge.Edge.least_priority.Goals as goal

pub lesser-least-requires : goal.lesser-least-requires
lesser-least-requires c =
    slot_below c.args.self.now.plan c.args.self.now.me c.args.self.now.ends.places c.args.service c.slots_of-slots.result.now c.loop-slot.slot-index 0
    c.slots_of-slots.ensures.slots c.loop-slot-test.true

pub loop-slot-preserved : goal.loop-slot-preserved
loop-slot-preserved c =
    least_next (λ slot. spoke_at (seen c.args.self.now) (place_of c.args.self.now.ends slot)) c.slots_of-slots.result.now c.loop-slot.slot-index 0 c.loop-slot.least c.lesser-least.result
    c.loop-slot-test.true c.loop-slot.invariant c.lesser-least.ensures

pub returns : goal.returns
returns c =
    least_all c.args.self.now c.args.service c.slots_of-slots.result.now c.loop-slot.slot-index c.loop-slot.least c.slots_of-slots.ensures.places c.slots_of-slots.ensures.slots
    c.loop-slot-test.false c.loop-slot.invariant
