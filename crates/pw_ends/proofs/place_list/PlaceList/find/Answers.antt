-- The index gives a name its first slot.
use Rattle.std.proofs.Common.{◌∙◌, List, position, ap}
use Rattle.edge_model.specs.declared.end_place.EndPlace.{EndPlace}
use Rattle.edge_model.specs.EndPlaces.{is_named}
use Rattle.pw_ends.proofs.place_list.PlaceList.find.Goals as goal

pub returns : goal.returns
returns c = c.copied.ensures ∙ c.get.ensures.value ∙ c.self.invariant.0.slot c.args.peer.0 c.args.pw_id ∙ ap (λ (l : List EndPlace). position (is_named c.args.peer c.args.pw_id) l) c.self.view_is
