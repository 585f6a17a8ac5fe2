-- The end on the other side is the one of the same wire beside the mate; without a mate there is none.
use Rattle.std.proofs.Common.{◌∙◌, ap, None, option_map, position, subst, sym}
use Rattle.edge_model.specs.declared.end_place.EndPlace.{EndPlace}
use Rattle.edge_model.specs.Across.{end_beside}
use Rattle.edge_model.specs.EndPlaces.{end_places, is_at}
use Rattle.pw_ends.specs.Ends.{place_of}
use Rattle.std.specs.List.{find}
use Rattle.provider_edge.proofs.AcrossLemmas.{found_beside, slot_beyond}
use Rattle.provider_edge.specs.Invariant.{IsEdge}
use Rattle.provider_edge.specs.Lists.{EdgeLists}
use Rattle.provider_edge.proofs.edge.Edge.slot_beyond.Goals as goal

pub returns-in-Some-clause-place : goal.returns-in-Some-clause-place
returns-in-Some-clause-place c =
    let is : IsEdge c.args.self.now = subst IsEdge c.self.view_is c.self.invariant in
    slot_beyond c.args.self.now (place_of c.args.self.now.ends c.args.slot) c.mate_at.result
    (option_map (place_of c.args.self.now.ends) c.beside.result) c.mate_at.ensures.within c.mate_at.ensures.mate
    (found_beside c.args.self.now (is_at c.place_at.result.wire.0 c.in-Some.mate.0) c.beside.result is
    (c.beside.ensures.slot ∙ ap (λ (n : EdgeLists). position (is_at c.place_at.result.wire.0 c.in-Some.mate.0) n.ends.places) c.self.view_is)
    ∙ (ap (λ (p : EndPlace). find (is_at p.wire.0 c.in-Some.mate.0) (end_places c.args.self.now.plan c.args.self.now.me)) c.place_at.ensures.place
    ∙ ap (end_beside c.args.self.now.plan c.args.self.now.me (place_of c.args.self.now.ends c.args.slot).wire) (sym c.in-Some.is)))

pub returns-in-None-clause-place : goal.returns-in-None-clause-place
returns-in-None-clause-place c =
    slot_beyond c.args.self.now (place_of c.args.self.now.ends c.args.slot) c.mate_at.result None c.mate_at.ensures.within c.mate_at.ensures.mate
    (ap (end_beside c.args.self.now.plan c.args.self.now.me (place_of c.args.self.now.ends c.args.slot).wire) (sym c.in-None.is))
