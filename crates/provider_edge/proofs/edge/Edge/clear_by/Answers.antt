-- A switching point tells its other side, if there is one. At a terminal end the bridge forgets by the port of the wire, if there is one,
-- and the edge passes the addresses on.
use Rattle.std.proofs.Common.{◌∙◌, ◌≡◌, ◌<◌, ℕ, Option, length, refl, sym, subst, true}
use Rattle.std.specs.Prelude.{IfSome}
use Rattle.net_base.specs.declared.plan.Plan.{Plan}
use Rattle.net_base.specs.declared.plan.places.EdgeId.{EdgeId}
use Rattle.hvpls_spokes.specs.Port.{ports_of}
use Rattle.mac_withdraw.specs.Passing.{is_wire_at}
use Rattle.pw_ends.specs.Ends.{place_of}
use Rattle.peer_dialogue.proofs.SettleLemmas.{map_on}
use Rattle.provider_edge.proofs.ClearLemmas.{beyond_clears, cleared_on, end_told, found_is_wire, no_end_told, no_port_clears, terminal_clears}
use Rattle.provider_edge.proofs.RowLemmas.{named_none, named_some}
use Rattle.edge_model.specs.Across.{end_beyond}
use Rattle.provider_edge.specs.AtWork.{at_work}
use Rattle.provider_edge.proofs.edge.Edge.clear_by.Goals as goal

pub pass_on-requires : goal.pass_on-requires
pass_on-requires g c = record {
  working = c.withdraw_at.ensures.keeps.stopped ∙ c.requires.working;
  service = subst (λ (p : Plan). c.service_at-service.result.0 < length p.services) (sym c.withdraw_at.ensures.keeps.plan) c.service_at-service.ensures.within;
  wire =
      subst (λ (m : EdgeId). is_wire_at (ports_of c.withdraw_at.new.self.plan c.service_at-service.result m) c.in-Some-wire_port.from ≡ true) (sym c.withdraw_at.ensures.keeps.me)
      (subst (λ (p : Plan). is_wire_at (ports_of p c.service_at-service.result c.args.self.now.me) c.in-Some-wire_port.from ≡ true) (sym c.withdraw_at.ensures.keeps.plan)
      (subst (λ (o : Option ℕ). IfSome o (λ from. is_wire_at (ports_of c.args.self.now.plan c.service_at-service.result c.args.self.now.me) from ≡ true)) c.in-Some-wire_port.is
      (found_is_wire _ _ c.wire_port.result c.wire_port.ensures)));
}

pub returns-in-Some-clause-step : goal.returns-in-Some-clause-step
returns-in-Some-clause-step g c = map_on _ _ c.tell_pieces.result
    (λ step. λ told agrees.
    beyond_clears c.args.self.now told c.args.addresses.now c.as_slice.result.now c.place_at-place.result (place_of c.args.self.now.ends c.args.slot)
    (g.L.Link.calls c.args.work.now.link.now) c.args.work.now.effects.now.list _
    c.place_at-place.ensures.place c.if-not-place.true c.as_slice.ensures
    (end_told told c.as_slice.result.now (end_beyond c.args.self.now.plan c.args.self.now.me (place_of c.args.self.now.ends c.args.slot))
    (place_of c.args.self.now.ends c.in-Some.other) (at_work g.L.Link.calls c.args.self.now c.args.work.now) _
    (named_some c.slot_beyond.result c.in-Some.other c.args.self.now.ends _ c.slot_beyond.ensures.place c.in-Some.is) (step told agrees)))
    c.tell_pieces.ensures.step

pub returns-in-None-clause-step : goal.returns-in-None-clause-step
returns-in-None-clause-step g c = λ told agrees.
    beyond_clears c.args.self.now told c.args.addresses.now c.args.addresses.now c.place_at-place.result (place_of c.args.self.now.ends c.args.slot)
    (g.L.Link.calls c.args.work.now.link.now) c.args.work.now.effects.now.list _
    c.place_at-place.ensures.place c.if-not-place.true refl
    (no_end_told told c.args.addresses.now (end_beyond c.args.self.now.plan c.args.self.now.me (place_of c.args.self.now.ends c.args.slot)) (at_work g.L.Link.calls c.args.self.now c.args.work.now)
    (named_none c.slot_beyond.result c.args.self.now.ends _ c.slot_beyond.ensures.place c.in-None.is))

pub returns-in_default-clause-step : goal.returns-in_default-clause-step
returns-in_default-clause-step g c = λ told agrees.
    terminal_clears c.args.self.now told c.args.addresses.now c.place_at-place.result (place_of c.args.self.now.ends c.args.slot) c.service_at-service.result c.wire_port.result
    (g.L.Link.calls c.args.work.now.link.now) c.args.work.now.effects.now.list _
    c.place_at-place.ensures.place c.if-not-place.false c.place_at-place.ensures.wire c.service_at-service.ensures.row c.wire_port.ensures
    (no_port_clears c.args.self.now.plan told c.args.addresses.now c.service_at-service.result c.wire_port.result (at_work g.L.Link.calls c.args.self.now c.args.work.now) c.in_default.is)

pub returns-clause-step : goal.returns-clause-step
returns-clause-step g c = map_on _ _ c.pass_on.result
    (λ step. λ told agrees.
    terminal_clears c.args.self.now told c.args.addresses.now c.place_at-place.result (place_of c.args.self.now.ends c.args.slot) c.service_at-service.result c.wire_port.result
    (g.L.Link.calls c.args.work.now.link.now) c.args.work.now.effects.now.list _
    c.place_at-place.ensures.place c.if-not-place.false c.place_at-place.ensures.wire c.service_at-service.ensures.row c.wire_port.ensures
    (cleared_on c.args.self.now c.withdraw_at.new.self told c.args.addresses.now c.as_slice-2.result.now c.service_at-service.result c.in-Some-wire_port.from c.wire_port.result
    (g.L.Link.calls c.args.work.now.link.now) c.args.work.now.effects.now.list _
    c.withdraw_at.ensures.keeps c.in-Some-wire_port.is c.as_slice-2.ensures c.withdraw_at.ensures.step (step told agrees)))
    c.pass_on.ensures.step
