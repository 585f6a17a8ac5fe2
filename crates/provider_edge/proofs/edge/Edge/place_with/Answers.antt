-- Each slot is that of an end. One more spoke is asked, until one has the least number or all were asked.
use Rattle.std.proofs.Common.{◌∙◌, sym}
use Rattle.edge_model.specs.Spokes.{spoke_at}
use Rattle.pw_ends.specs.Ends.{place_of}
use Rattle.spoke_redundancy.specs.Least.{is_least}
use Rattle.provider_edge.proofs.SpokeLemmas.{place_chosen, place_here, place_next, place_none, slot_below}
use Rattle.provider_edge.specs.Lists.{seen}
use Rattle.provider_edge.proofs.edge.Edge.place_with.Goals as goal

pub has_least-requires : goal.has_least-requires
has_least-requires c =
    slot_below c.args.self.now.plan c.args.self.now.me c.args.self.now.ends.places c.args.service c.slots_of-slots.result.now c.loop-place.place 0 c.slots_of-slots.ensures.slots c.loop-place-test.true

pub loop-place-preserved : goal.loop-place-preserved
loop-place-preserved c =
    place_next (λ slot. is_least c.args.least (spoke_at (seen c.args.self.now) (place_of c.args.self.now.ends slot))) c.slots_of-slots.result.now c.loop-place.place 0 _ c.loop-place-test.true
    (sym c.has_least.ensures ∙ c.if-has_least.false) c.loop-place.invariant

pub returns-then-has_least-clause-chosen : goal.returns-then-has_least-clause-chosen
returns-then-has_least-clause-chosen c =
    place_chosen c.args.self.now c.args.service c.slots_of-slots.result.now c.args.least _ c.slots_of-slots.ensures.places c.slots_of-slots.ensures.slots c.requires.least
    (place_here (λ slot. is_least c.args.least (spoke_at (seen c.args.self.now) (place_of c.args.self.now.ends slot))) c.slots_of-slots.result.now c.loop-place.place 0 _ c.loop-place-test.true
    (sym c.has_least.ensures ∙ c.if-has_least.true) c.loop-place.invariant)

pub returns-clause-chosen : goal.returns-clause-chosen
returns-clause-chosen c =
    place_chosen c.args.self.now c.args.service c.slots_of-slots.result.now c.args.least _ c.slots_of-slots.ensures.places c.slots_of-slots.ensures.slots c.requires.least
    (place_none (λ slot. is_least c.args.least (spoke_at (seen c.args.self.now) (place_of c.args.self.now.ends slot))) c.slots_of-slots.result.now c.loop-place.place _ c.loop-place-test.false
    c.loop-place.invariant)
