-- The slot of the wire's terminal end is that of the place which the plan has for it; without a slot the plan has no such place.
use Rattle.std.proofs.Common.{◌≡◌, ◌∙◌, None, ap}
use Rattle.std.specs.List.{find}
use Rattle.edge_model.specs.EndPlaces.{end_places, is_end_of_wire}
use Rattle.edge_model.specs.Role.{down_at}
use Rattle.provider_edge.specs.contracts.edge.Edge.{the_view}
use Rattle.provider_edge.proofs.EdgeLemmas.{for_place}
use Rattle.provider_edge.proofs.SlotLemmas.{no_place, slot_place}
use Rattle.provider_edge.specs.Lists.{seen}
use Rattle.provider_edge.proofs.edge.Edge.down.Goals as goal

pub returns-in-Some : goal.returns-in-Some
returns-in-Some c =
    for_place (λ place. c.down_of.result ≡ down_at c.args.self.now.plan (seen c.args.self.now) place)
    (find (is_end_of_wire c.args.wire) (end_places c.args.self.now.plan c.args.self.now.me)) (λ place here.
    c.down_of.ensures
    ∙ ap (down_at c.args.self.now.plan (seen c.args.self.now))
    (slot_place (the_view c.self.inside) c.args.self.now (is_end_of_wire c.args.wire) c.terminal.result c.in-Some.slot place c.self.view_is c.self.invariant
    c.terminal.ensures.slot c.in-Some.is here))

pub returns-in-None : goal.returns-in-None
returns-in-None c =
    for_place (λ place. None ≡ down_at c.args.self.now.plan (seen c.args.self.now) place) (find (is_end_of_wire c.args.wire) (end_places c.args.self.now.plan c.args.self.now.me)) (λ place here.
    absurd (no_place (the_view c.self.inside) c.args.self.now (is_end_of_wire c.args.wire) c.terminal.result place c.self.view_is c.self.invariant
    c.terminal.ensures.slot c.in-None.is here))
