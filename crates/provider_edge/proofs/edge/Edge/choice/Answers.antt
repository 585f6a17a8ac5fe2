use Rattle.std.proofs.Common.{refl, rules}
use Rattle.edge_model.specs.Spokes.{spokes_of}
use Rattle.provider_edge.proofs.SpokeLemmas.{choice_read, slot_below, wire_named}
use Rattle.provider_edge.specs.Lists.{seen}
use Rattle.provider_edge.proofs.edge.Edge.choice.Goals as goal

pub place_at-requires : goal.place_at-requires
place_at-requires c =
    slot_below c.args.self.now.plan c.args.self.now.me c.args.self.now.ends.places c.args.service c.slots_of.result.now c.in-Some.place 0 c.slots_of.ensures.slots
    (search rules)

pub returns-in-Some : goal.returns-in-Some
returns-in-Some c =
    choice_read c.args.self.now c.args.service c.in-Some.place (spokes_of c.args.self.now.plan (seen c.args.self.now) (record { 0 = c.args.service })) c.place_at.result.wire
    refl c.in-Some.ensures.chosen
    (wire_named c.args.self.now.plan c.args.self.now.me c.args.self.now.ends c.args.service c.slots_of.result.now c.in-Some.place 0 c.place_at.result
    c.slots_of.ensures.places c.slots_of.ensures.slots c.in-Some.ensures.place c.place_at.ensures.place)
