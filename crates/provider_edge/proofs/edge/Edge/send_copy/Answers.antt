-- Without an end, a row of the wire or a binding no copy is sent; else the packet under the binding is.
use Rattle.std.proofs.Common.{◌≡◌, ◌∙◌, ap, sym, subst, position, slice_get, option_copied}
use Rattle.edge_model.specs.EndPlaces.{is_end_of_wire}
use Rattle.edge_model.specs.Ends.{wire_end}
use Rattle.peer_dialogue.proofs.SettleLemmas.{map_on}
use Rattle.provider_edge.proofs.SlotLemmas.{none_found, slot_found}
use Rattle.provider_edge.specs.AtWork.{at_work}
use Rattle.provider_edge.specs.Invariant.{IsEdge}
use Rattle.provider_edge.specs.Lists.{EdgeLists}
use Rattle.net_base.specs.declared.plan.Plan.{Plan}
use Rattle.net_base.specs.plan.Paths.{offer_of}
use Rattle.net_base.specs.plan.Places.{wire_row}
use Rattle.pw_signalling.specs.End.{EndState}
use Rattle.pw_ends.specs.Ends.{end_in, place_of}
use Rattle.edge_model.specs.declared.end_place.EndPlace.{EndPlace}
use Rattle.provider_edge.proofs.BridgeLemmas.{copy_none, copy_some, under_no_wire, under_none, under_some}
use Rattle.provider_edge.proofs.edge.Edge.send_copy.Goals as goal

pub returns-in_default-clause-step : goal.returns-in_default-clause-step
returns-in_default-clause-step g c = λ told agrees.
    let is : IsEdge c.args.self.now = subst IsEdge c.self.view_is c.self.invariant in
    copy_none told c.args.came c.args.frame.now c.args.self.now.plan (wire_end c.args.self.now.plan c.args.self.now.me c.args.wire) (at_work g.L.Link.calls c.args.self.now c.args.work.now)
    (none_found c.args.self.now (is_end_of_wire c.args.wire) c.terminal.result is
    (c.terminal.ensures.slot ∙ ap (λ (n : EdgeLists). position (is_end_of_wire c.args.wire) n.ends.places) c.self.view_is) c.in_default.is)

pub returns-in_default-get-clause-step : goal.returns-in_default-get-clause-step
returns-in_default-get-clause-step g c = λ told agrees.
    let is : IsEdge c.args.self.now = subst IsEdge c.self.view_is c.self.invariant in
    let plan : c.deref.result.now ≡ c.args.self.now.plan = c.deref.ensures ∙ ap (λ (n : EdgeLists). n.plan) c.self.view_is in
    let at : option_copied c.get.result ≡ wire_row c.args.self.now.plan (place_of c.args.self.now.ends c.in-Some.slot).wire =
    c.get.ensures ∙ (ap (λ (p : Plan). slice_get p.wires c.place_at-place.result.wire.0) plan ∙ ap (λ (p : EndPlace). slice_get c.args.self.now.plan.wires p.wire.0) c.place_at-place.ensures.place) in
    copy_some c.args.self.now told c.args.came c.args.frame.now c.in-Some.slot (wire_end c.args.self.now.plan c.args.self.now.me c.args.wire)
    (g.L.Link.calls c.args.work.now.link.now) c.args.work.now.effects.now.list _
    (slot_found c.args.self.now (is_end_of_wire c.args.wire) c.terminal.result c.in-Some.slot is
    (c.terminal.ensures.slot ∙ ap (λ (n : EdgeLists). position (is_end_of_wire c.args.wire) n.ends.places) c.self.view_is) c.in-Some.is)
    (under_no_wire told c.args.came c.args.frame.now c.args.self.now.me (place_of c.args.self.now.ends c.in-Some.slot)
    (wire_row c.args.self.now.plan (place_of c.args.self.now.ends c.in-Some.slot).wire) (end_in c.args.self.now.ends c.in-Some.slot).remote
    (at_work g.L.Link.calls c.args.self.now c.args.work.now) (sym at ∙ ap option_copied c.in_default-get.is))

pub returns-in_default-remote-clause-step : goal.returns-in_default-remote-clause-step
returns-in_default-remote-clause-step g c = λ told agrees.
    let is : IsEdge c.args.self.now = subst IsEdge c.self.view_is c.self.invariant in
    copy_some c.args.self.now told c.args.came c.args.frame.now c.in-Some.slot (wire_end c.args.self.now.plan c.args.self.now.me c.args.wire)
    (g.L.Link.calls c.args.work.now.link.now) c.args.work.now.effects.now.list _
    (slot_found c.args.self.now (is_end_of_wire c.args.wire) c.terminal.result c.in-Some.slot is
    (c.terminal.ensures.slot ∙ ap (λ (n : EdgeLists). position (is_end_of_wire c.args.wire) n.ends.places) c.self.view_is) c.in-Some.is)
    (under_none told c.args.came c.args.frame.now c.args.self.now.me (place_of c.args.self.now.ends c.in-Some.slot)
    (wire_row c.args.self.now.plan (place_of c.args.self.now.ends c.in-Some.slot).wire) (end_in c.args.self.now.ends c.in-Some.slot).remote
    (at_work g.L.Link.calls c.args.self.now c.args.work.now) (sym (c.remote.ensures.remote ∙ ap (λ (e : EndState). e.remote) c.end_in.ensures.end) ∙ ap option_copied c.in_default-remote.is))

pub returns-clause-step : goal.returns-clause-step
returns-clause-step g c = map_on _ _ c.send.result
    (λ step. λ told agrees.
    let is : IsEdge c.args.self.now = subst IsEdge c.self.view_is c.self.invariant in
    let plan : c.deref.result.now ≡ c.args.self.now.plan = c.deref.ensures ∙ ap (λ (n : EdgeLists). n.plan) c.self.view_is in
    let at : option_copied c.get.result ≡ wire_row c.args.self.now.plan (place_of c.args.self.now.ends c.in-Some.slot).wire =
    c.get.ensures ∙ (ap (λ (p : Plan). slice_get p.wires c.place_at-place.result.wire.0) plan ∙ ap (λ (p : EndPlace). slice_get c.args.self.now.plan.wires p.wire.0) c.place_at-place.ensures.place) in
    copy_some c.args.self.now told c.args.came c.args.frame.now c.in-Some.slot (wire_end c.args.self.now.plan c.args.self.now.me c.args.wire)
    (g.L.Link.calls c.args.work.now.link.now) c.args.work.now.effects.now.list _
    (slot_found c.args.self.now (is_end_of_wire c.args.wire) c.terminal.result c.in-Some.slot is
    (c.terminal.ensures.slot ∙ ap (λ (n : EdgeLists). position (is_end_of_wire c.args.wire) n.ends.places) c.self.view_is) c.in-Some.is)
    (under_some told c.args.came c.args.frame.now c.args.self.now.me (place_of c.args.self.now.ends c.in-Some.slot)
    (wire_row c.args.self.now.plan (place_of c.args.self.now.ends c.in-Some.slot).wire) c.in-Some-get.row.now
    (end_in c.args.self.now.ends c.in-Some.slot).remote c.in-Some-remote.binding.now c.offer_of.result c.in_ok-packet.packet (at_work g.L.Link.calls c.args.self.now c.args.work.now) _
    (sym at ∙ ap option_copied c.in-Some-get.is) (sym (c.remote.ensures.remote ∙ ap (λ (e : EndState). e.remote) c.end_in.ensures.end) ∙ ap option_copied c.in-Some-remote.is)
    (c.offer_of.ensures ∙ ap (λ (n : EdgeLists). offer_of c.in-Some-get.row.now n.me.0) c.self.view_is) c.in_ok-packet.ensures (step told agrees)))
    c.send.ensures.step
