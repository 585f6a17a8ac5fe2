-- The addresses are told at the slot of the wire's terminal end; without one they are not.
use Rattle.std.proofs.Common.{◌∙◌, ap, position, subst}
use Rattle.edge_model.specs.EndPlaces.{is_end_of_wire}
use Rattle.edge_model.specs.Ends.{wire_end}
use Rattle.pw_ends.specs.Ends.{place_of}
use Rattle.peer_dialogue.proofs.SettleLemmas.{map_on}
use Rattle.provider_edge.proofs.ClearLemmas.{end_told, no_end_told}
use Rattle.provider_edge.proofs.SlotLemmas.{none_found, slot_found}
use Rattle.provider_edge.specs.AtWork.{at_work}
use Rattle.provider_edge.specs.Invariant.{IsEdge}
use Rattle.provider_edge.specs.Lists.{EdgeLists}
use Rattle.provider_edge.proofs.edge.Edge.tell_wire.Goals as goal

pub returns-in-Some-clause-step : goal.returns-in-Some-clause-step
returns-in-Some-clause-step g c = map_on _ _ c.tell_pieces.result
    (λ step. λ told agrees.
    let is : IsEdge c.args.self.now = subst IsEdge c.self.view_is c.self.invariant in
    end_told told c.args.addresses.now (wire_end c.args.self.now.plan c.args.self.now.me c.args.wire) (place_of c.args.self.now.ends c.in-Some.slot)
    (at_work g.L.Link.calls c.args.self.now c.args.work.now) _
    (slot_found c.args.self.now (is_end_of_wire c.args.wire) c.terminal.result c.in-Some.slot is
    (c.terminal.ensures.slot ∙ ap (λ (n : EdgeLists). position (is_end_of_wire c.args.wire) n.ends.places) c.self.view_is) c.in-Some.is) (step told agrees))
    c.tell_pieces.ensures.step

pub returns-in-None-clause-step : goal.returns-in-None-clause-step
returns-in-None-clause-step g c = λ told agrees.
    let is : IsEdge c.args.self.now = subst IsEdge c.self.view_is c.self.invariant in
    no_end_told told c.args.addresses.now (wire_end c.args.self.now.plan c.args.self.now.me c.args.wire) (at_work g.L.Link.calls c.args.self.now c.args.work.now)
    (none_found c.args.self.now (is_end_of_wire c.args.wire) c.terminal.result is
    (c.terminal.ensures.slot ∙ ap (λ (n : EdgeLists). position (is_end_of_wire c.args.wire) n.ends.places) c.self.view_is) c.in-None.is)
