-- The slot of the segment's end is that of the place which the plan has for it, and its end has the state there; without a slot the plan
-- has no such place.
use Rattle.std.proofs.Common.{◌∙◌, None, Some, ap, position}
use Rattle.std.specs.List.{find}
use Rattle.pw_signalling.specs.AnyEnd.{end_of}
use Rattle.edge_model.specs.EndPlaces.{end_places}
use Rattle.edge_model.specs.State.{end_at}
use Rattle.provider_edge.specs.contracts.edge.Edge.{the_view}
use Rattle.provider_edge.proofs.EdgeLemmas.{end_asked, state_asked}
use Rattle.provider_edge.proofs.SlotLemmas.{end_none, end_some}
use Rattle.provider_edge.specs.EndOf.{is_of_segment}
use Rattle.provider_edge.specs.Lists.{seen}
use Rattle.provider_edge.proofs.edge.Edge.end.Goals as goal

pub returns-in-Some : goal.returns-in-Some
returns-in-Some c =
    let here =
    end_some (the_view c.self.inside) c.args.self.now (is_of_segment c.args.key) c.slot_at.result c.in-Some.slot (end_of c.end.result.now) c.self.view_is c.self.invariant
    (c.slot_at.ensures ∙ ap (position (is_of_segment c.args.key)) c.places.ensures.places) c.in-Some.is c.end.ensures.end in
    record {
      none = end_asked end_of (end_at (seen c.args.self.now)) (Some c.end.result) (find (is_of_segment c.args.key) (end_places c.args.self.now.plan c.args.self.now.me)) here;
      state = state_asked end_of (end_at (seen c.args.self.now)) (Some c.end.result) (find (is_of_segment c.args.key) (end_places c.args.self.now.plan c.args.self.now.me)) here;
    }

pub returns-in-None : goal.returns-in-None
returns-in-None c = record {
  none =
      end_asked end_of (end_at (seen c.args.self.now)) None (find (is_of_segment c.args.key) (end_places c.args.self.now.plan c.args.self.now.me))
      (end_none (the_view c.self.inside) c.args.self.now (is_of_segment c.args.key) c.slot_at.result c.self.view_is c.self.invariant
      (c.slot_at.ensures ∙ ap (position (is_of_segment c.args.key)) c.places.ensures.places) c.in-None.is);
  state = tt;
}
