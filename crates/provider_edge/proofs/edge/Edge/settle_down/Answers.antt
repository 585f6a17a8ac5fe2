-- A switching point settles nothing. A terminal end that forwards forgets nothing, and one that does not forgets its wire; then its cause
-- is told.
use Rattle.std.proofs.Common.{◌∙◌, Bool, ap, cond, not, sym}
use Rattle.net_base.specs.plan.Places.{wire_row}
use Rattle.edge_model.specs.declared.end_place.EndPlace.{EndPlace}
use Rattle.edge_model.specs.Mend.{forgetting_wire}
use Rattle.pw_ends.specs.Ends.{place_of}
use Rattle.peer_dialogue.proofs.SettleLemmas.{map_on}
use Rattle.provider_edge.proofs.MendLemmas.{settled_down, settled_other}
use Rattle.provider_edge.specs.Lists.{seen}
use Rattle.provider_edge.proofs.edge.Edge.settle_down.Goals as goal

pub returns-then-not-place-clause-step : goal.returns-then-not-place-clause-step
returns-then-not-place-clause-step c = λ calls.
    settled_other c.args.self.now.plan (place_of c.args.self.now.ends c.args.slot) c.place_at-place.result
    (seen c.args.self.now) calls c.args.out.now c.place_at-place.ensures.place c.if-not-place.true

pub returns-then-is_none-clause-step : goal.returns-then-is_none-clause-step
returns-then-is_none-clause-step c =
    map_on _ _ c.tell_by.result (λ told. λ calls.
    settled_down c.args.self.now.plan (place_of c.args.self.now.ends c.args.slot) c.place_at-place.result c.down_of-down.result (seen c.args.self.now)
    (seen c.args.self.now) calls c.args.out.now _ c.place_at-place.ensures.place c.if-not-place.false
    c.down_of-down.ensures
    (sym (ap (λ (b : Bool). cond b (forgetting_wire c.args.self.now.plan c.place_at-place.result.wire (wire_row c.args.self.now.plan c.place_at-place.result.wire)
    (seen c.args.self.now)) (seen c.args.self.now)) (c.is_none.ensures ∙ ap not c.if-is_none.true)))
    (told (place_of c.args.self.now.ends c.args.slot) calls (ap (λ (p : EndPlace). p.wire) (sym c.place_at-place.ensures.place))))
    c.tell_by.ensures.step

pub returns-clause-step : goal.returns-clause-step
returns-clause-step c =
    map_on _ _ c.tell_by-2.result (λ told. λ calls.
    settled_down c.args.self.now.plan (place_of c.args.self.now.ends c.args.slot) c.place_at-place.result c.down_of-down.result (seen c.args.self.now)
    (seen c.forget_wire.new.self) calls c.args.out.now _ c.place_at-place.ensures.place c.if-not-place.false
    c.down_of-down.ensures
    (c.forget_wire.ensures.step
    ∙ sym (ap (λ (b : Bool). cond b (forgetting_wire c.args.self.now.plan c.place_at-place.result.wire (wire_row c.args.self.now.plan c.place_at-place.result.wire)
    (seen c.args.self.now)) (seen c.args.self.now)) (c.is_none.ensures ∙ ap not c.if-is_none.false)))
    (told (place_of c.args.self.now.ends c.args.slot) calls (ap (λ (p : EndPlace). p.wire) (sym c.place_at-place.ensures.place))))
    c.tell_by-2.ensures.step
