-- The row of the wire names its service; a spoke that is chosen now is new where it was not before, and one that is not chosen is not new.
use Rattle.std.proofs.Common.{◌∙◌, None, ap, slice_get, sym}
use Rattle.net_base.specs.declared.plan.Plan.{Plan}
use Rattle.edge_model.specs.Role.{is_chosen_wire}
use Rattle.edge_forwarding.specs.Views.{view}
use Rattle.provider_edge.specs.contracts.edge.Edge.{the_view}
use Rattle.provider_edge.proofs.SlotLemmas.{new_away, new_read, new_there}
use Rattle.provider_edge.specs.Lists.{seen}
use Rattle.provider_edge.proofs.edge.Edge.is_new_choice.Goals as goal

pub returns-then-is_chosen : goal.returns-then-is_chosen
returns-then-is_chosen c =
    new_read (the_view c.self.inside) c.args.self.now c.args.slot c.place_at.result c.in-Some.row.now (view None c.args.chosen.now) _ c.self.view_is c.place_at.ensures.place
    (sym (c.in-Some.ensures ∙ ap (λ (p : Plan). slice_get p.wires c.place_at.result.wire.0) c.deref.ensures))
    (new_there (is_chosen_wire c.place_at.result.wire ((seen c.args.self.now).chosen c.in-Some.row.now.service.0))
    (is_chosen_wire c.place_at.result.wire (view None c.args.chosen.now c.in-Some.row.now.service.0)) c.is_chosen.result c.is_wire_of.result
    c.is_chosen.ensures c.if-is_chosen.true c.is_wire_of.ensures)

pub returns-else-is_chosen : goal.returns-else-is_chosen
returns-else-is_chosen c =
    new_read (the_view c.self.inside) c.args.self.now c.args.slot c.place_at.result c.in-Some.row.now (view None c.args.chosen.now) _ c.self.view_is c.place_at.ensures.place
    (sym (c.in-Some.ensures ∙ ap (λ (p : Plan). slice_get p.wires c.place_at.result.wire.0) c.deref.ensures))
    (new_away (is_chosen_wire c.place_at.result.wire ((seen c.args.self.now).chosen c.in-Some.row.now.service.0))
    (is_chosen_wire c.place_at.result.wire (view None c.args.chosen.now c.in-Some.row.now.service.0)) c.is_chosen.result
    c.is_chosen.ensures c.if-is_chosen.false)
