-- An idle end that has not declined puts its mapping. One that advertises withdraws its label where what it told no longer stands. Any
-- other end stays.
use Rattle.std.proofs.Common.{◌∙◌, ℕ, Option, ap, refl, sym}
use Rattle.pw_messages.specs.Content.{withdrawal}
use Rattle.edge_model.specs.declared.end_place.EndPlace.{EndPlace}
use Rattle.edge_model.specs.Mend.{offer_stands, wish}
use Rattle.edge_model.specs.Put.{Spoken}
use Rattle.edge_model.specs.Session.{says}
use Rattle.pw_ends.specs.Ends.{place_of}
use Rattle.pw_signalling.specs.End.{Advertised}
use Rattle.pw_signalling.specs.declared.told.Told.{Told}
use Rattle.peer_dialogue.specs.Peering.{at_edge}
use Rattle.peer_dialogue.proofs.SettleLemmas.{map_ok}
use Rattle.pw_signalling.specs.Rows.{withdrawn}
use Rattle.provider_edge.proofs.GivenLemmas.{changing_keeps, keeps_withdrawn}
use Rattle.provider_edge.proofs.MendLemmas.{advertised_ends, idle_declined, idle_wishes, local_is, withdrawing_stays}
use Rattle.provider_edge.proofs.RowLemmas.{unless_stands, unless_stands_not, withdraws_at}
use Rattle.provider_edge.specs.AtWork.{at_work}
use Rattle.provider_edge.specs.Lists.{seen}
use Rattle.provider_edge.proofs.edge.Edge.mend_end.Goals as goal

pub returns-then-is_declined-clause-step : goal.returns-then-is_declined-clause-step
returns-then-is_declined-clause-step g c = λ told agrees.
    idle_declined c.args.self.now.plan told (place_of c.args.self.now.ends c.args.slot) (at_work g.L.Link.calls c.args.self.now c.args.work.now) c.in-Idle.end.declined
    (local_is c.args.self.now (g.L.Link.calls c.args.work.now.link.now) c.args.work.now.effects.now.list c.args.slot c.end_in.result.now _ c.end_in.ensures.end c.in-Idle.is)
    (sym c.is_declined.ensures.declined ∙ c.if-is_declined.true)

pub returns-else-is_declined-clause-step : goal.returns-else-is_declined-clause-step
unfolding at_edge
returns-else-is_declined-clause-step g c =
    map_ok _ _ c.put_mapping.result (λ failed said. λ told agrees.
    idle_wishes c.args.self.now.plan told (place_of c.args.self.now.ends c.args.slot) (at_work g.L.Link.calls c.args.self.now c.args.work.now) c.in-Idle.end.declined
    (record { work = at_work g.L.Link.calls c.put_mapping.new.self c.put_mapping.new.work; failed = failed })
    (local_is c.args.self.now (g.L.Link.calls c.args.work.now.link.now) c.args.work.now.effects.now.list c.args.slot c.end_in.result.now _ c.end_in.ensures.end c.in-Idle.is)
    (sym c.is_declined.ensures.declined ∙ c.if-is_declined.false)
    (said told agrees))
    c.put_mapping.ensures.step

pub returns-then-still_stands-clause-step : goal.returns-then-still_stands-clause-step
unfolding at_edge
returns-then-still_stands-clause-step g c = λ told agrees.
    advertised_ends c.args.self.now.plan told (place_of c.args.self.now.ends c.args.slot) (at_work g.L.Link.calls c.args.self.now c.args.work.now) c.in-Advertised.end.label c.told.result.now
    _
    (local_is c.args.self.now (g.L.Link.calls c.args.work.now.link.now) c.args.work.now.effects.now.list c.args.slot c.end_in.result.now _ c.end_in.ensures.end c.in-Advertised.is
    ∙ ap (λ (t : Told). Advertised c.in-Advertised.end.label t) (sym c.told.ensures.told))
    (unless_stands told (place_of c.args.self.now.ends c.args.slot) (place_of c.args.self.now.ends c.args.slot) c.in-Advertised.end.label c.told.result.now
    (wish c.args.self.now.plan (seen c.args.self.now) (place_of c.args.self.now.ends c.args.slot))
    (wish c.args.self.now.plan (seen c.args.self.now) (place_of c.args.self.now.ends c.args.slot)) c.still_stands.result (at_work g.L.Link.calls c.args.self.now c.args.work.now)
    refl refl c.still_stands.ensures c.if-still_stands.true)

pub returns-else-still_stands-clause-step : goal.returns-else-still_stands-clause-step
unfolding at_edge
returns-else-still_stands-clause-step g c =
    map_ok _ _ c.say.result (λ failed said. λ told agrees.
    let put : Spoken = record { work = at_work g.L.Link.calls c.say.new.self c.say.new.work; failed = failed } in
    let wished : Option Told = wish c.args.self.now.plan (seen c.args.self.now) (place_of c.args.self.now.ends c.args.slot) in
    advertised_ends c.args.self.now.plan told (place_of c.args.self.now.ends c.args.slot) (at_work g.L.Link.calls c.args.self.now c.args.work.now) c.label-label.result c.told-content.result.now put
    (local_is c.args.self.now (g.L.Link.calls c.args.work.now.link.now) c.args.work.now.effects.now.list c.args.slot c.end_in.result.now _ c.end_in.ensures.end c.in-Advertised.is
    ∙ (ap (λ (n : ℕ). Advertised n c.in-Advertised.end.told) (sym c.label-label.ensures.label) ∙ ap (λ (t : Told). Advertised c.label-label.result t) (sym c.told-content.ensures.told)))
    (unless_stands_not told (place_of c.args.self.now.ends c.args.slot)
    (place_of c.args.self.now.ends c.args.slot) c.label-label.result c.told-content.result.now wished wished c.still_stands.result (at_work g.L.Link.calls c.args.self.now c.args.work.now) put
    refl refl (c.still_stands.ensures ∙ ap (λ (t : Told). offer_stands (place_of c.args.self.now.ends c.args.slot) t wished) (c.told.ensures.told ∙ sym c.told-content.ensures.told)) c.if-still_stands.false
    (withdraws_at told (place_of c.args.self.now.ends c.args.slot) c.label-label.result c.told-content.result.now (seen c.args.self.now) (seen c.change.new.self)
    (g.L.Link.calls c.args.work.now.link.now) c.args.work.now.effects.now.list put
    (c.change.ensures.step ∙ changing_keeps withdrawn (place_of c.args.self.now.ends c.args.slot) (seen c.args.self.now) keeps_withdrawn)
    (said told agrees ∙ ap (λ (p : EndPlace). says told p.peer (withdrawal p.pw_id c.label-label.result c.told-content.result.now)
    (at_work g.L.Link.calls c.change.new.self c.args.work.now)) c.place_at-place.ensures.place))))
    c.say.ensures.step

pub returns-in-Withdrawing-clause-step : goal.returns-in-Withdrawing-clause-step
returns-in-Withdrawing-clause-step g c = λ told agrees.
    withdrawing_stays c.args.self.now.plan told (place_of c.args.self.now.ends c.args.slot) (at_work g.L.Link.calls c.args.self.now c.args.work.now) c.in-Withdrawing.field-0.label
    (local_is c.args.self.now (g.L.Link.calls c.args.work.now.link.now) c.args.work.now.effects.now.list c.args.slot c.end_in.result.now _ c.end_in.ensures.end c.in-Withdrawing.is)
