-- An end that advertises tells its status where its mapping has one that has changed, and keeps its label; any other end tells none.
use Rattle.std.proofs.Common.{◌∙◌, ap, sym}
use Rattle.std.proofs.lemmas.Bool.{eq-eqb, ne_eqb}
use Rattle.pw_messages.specs.Content.{status_notification}
use Rattle.edge_model.specs.declared.end_place.EndPlace.{EndPlace}
use Rattle.edge_model.specs.Put.{Spoken}
use Rattle.edge_model.specs.Role.{status_to_tell}
use Rattle.edge_model.specs.Session.{says}
use Rattle.pw_ends.specs.Ends.{place_of}
use Rattle.pw_signalling.specs.End.{Advertised}
use Rattle.pw_signalling.specs.declared.told.Told.{Told}
use Rattle.peer_dialogue.specs.Peering.{at_edge}
use Rattle.peer_dialogue.proofs.SettleLemmas.{map_ok}
use Rattle.pw_signalling.specs.Rows.{telling}
use Rattle.provider_edge.proofs.GivenLemmas.{changing_keeps, keeps_telling}
use Rattle.provider_edge.proofs.MendLemmas.{local_is, over_new, over_none, over_same, status_idle, status_over, status_withdrawing}
use Rattle.provider_edge.proofs.RowLemmas.{tells_at}
use Rattle.provider_edge.specs.AtWork.{at_work}
use Rattle.provider_edge.specs.Lists.{seen}
use Rattle.provider_edge.proofs.edge.Edge.mend_status.Goals as goal

pub returns-in_default-clause-step : goal.returns-in_default-clause-step
unfolding at_edge
returns-in_default-clause-step g c = λ told agrees.
    status_over c.args.self.now.plan told (place_of c.args.self.now.ends c.args.slot) (at_work g.L.Link.calls c.args.self.now c.args.work.now) c.in-Advertised.end.label c.told.result.now
    _
    (local_is c.args.self.now (g.L.Link.calls c.args.work.now.link.now) c.args.work.now.effects.now.list c.args.slot c.end_in.result.now _ c.end_in.ensures.end c.in-Advertised.is
    ∙ ap (λ (t : Told). Advertised c.in-Advertised.end.label t) (sym c.told.ensures.told))
    (over_none told (place_of c.args.self.now.ends c.args.slot) c.told.result.now
    (status_to_tell c.args.self.now.plan (seen c.args.self.now) (place_of c.args.self.now.ends c.args.slot)) c.told.result.now.status
    (at_work g.L.Link.calls c.args.self.now c.args.work.now) c.in_default.is)

pub returns-then-last-status-clause-step : goal.returns-then-last-status-clause-step
unfolding at_edge
returns-then-last-status-clause-step g c = λ told agrees.
    status_over c.args.self.now.plan told (place_of c.args.self.now.ends c.args.slot) (at_work g.L.Link.calls c.args.self.now c.args.work.now) c.in-Advertised.end.label c.told.result.now
    _
    (local_is c.args.self.now (g.L.Link.calls c.args.work.now.link.now) c.args.work.now.effects.now.list c.args.slot c.end_in.result.now _ c.end_in.ensures.end c.in-Advertised.is
    ∙ ap (λ (t : Told). Advertised c.in-Advertised.end.label t) (sym c.told.ensures.told))
    (over_same told (place_of c.args.self.now.ends c.args.slot) c.told.result.now c.status_to_tell-status.result
    (status_to_tell c.args.self.now.plan (seen c.args.self.now) (place_of c.args.self.now.ends c.args.slot)) c.told.result.now.status c.in-Some.last
    (at_work g.L.Link.calls c.args.self.now c.args.work.now)
    c.status_to_tell-status.ensures c.in-Some.is (eq-eqb c.in-Some.last.0 c.status_to_tell-status.result.0 c.if-last-status.true))

pub returns-else-last-status-clause-step : goal.returns-else-last-status-clause-step
unfolding at_edge
returns-else-last-status-clause-step g c =
    map_ok _ _ c.say.result (λ failed said. λ told agrees.
    let put : Spoken = record { work = at_work g.L.Link.calls c.say.new.self c.say.new.work; failed = failed } in
    status_over c.args.self.now.plan told (place_of c.args.self.now.ends c.args.slot) (at_work g.L.Link.calls c.args.self.now c.args.work.now) c.in-Advertised.end.label c.told-content.result.now put
    (local_is c.args.self.now (g.L.Link.calls c.args.work.now.link.now) c.args.work.now.effects.now.list c.args.slot c.end_in.result.now _ c.end_in.ensures.end c.in-Advertised.is
    ∙ ap (λ (t : Told). Advertised c.in-Advertised.end.label t) (sym c.told-content.ensures.told))
    (over_new told (place_of c.args.self.now.ends c.args.slot) c.told-content.result.now c.status_to_tell-status.result
    (status_to_tell c.args.self.now.plan (seen c.args.self.now) (place_of c.args.self.now.ends c.args.slot)) c.told-content.result.now.status c.in-Some.last
    (at_work g.L.Link.calls c.args.self.now c.args.work.now) put
    c.status_to_tell-status.ensures (ap (λ (t : Told). t.status) (c.told-content.ensures.told ∙ sym c.told.ensures.told) ∙ c.in-Some.is)
    (ne_eqb c.in-Some.last.0 c.status_to_tell-status.result.0 c.if-last-status.false)
    (tells_at told (place_of c.args.self.now.ends c.args.slot) c.told-content.result.now c.status_to_tell-status.result (seen c.args.self.now) (seen c.change.new.self)
    (g.L.Link.calls c.args.work.now.link.now) c.args.work.now.effects.now.list put
    (c.change.ensures.step ∙ changing_keeps (telling c.status_to_tell-status.result) (place_of c.args.self.now.ends c.args.slot) (seen c.args.self.now) (keeps_telling c.status_to_tell-status.result))
    (said told agrees ∙ ap (λ (p : EndPlace). says told p.peer (status_notification p.pw_id c.status_to_tell-status.result c.told-content.result.now)
    (at_work g.L.Link.calls c.change.new.self c.args.work.now)) c.place_at-place.ensures.place))))
    c.say.ensures.step

pub returns-in-Idle-clause-step : goal.returns-in-Idle-clause-step
returns-in-Idle-clause-step g c = λ told agrees.
    status_idle c.args.self.now.plan told (place_of c.args.self.now.ends c.args.slot) (at_work g.L.Link.calls c.args.self.now c.args.work.now) c.in-Idle.field-0.declined
    (local_is c.args.self.now (g.L.Link.calls c.args.work.now.link.now) c.args.work.now.effects.now.list c.args.slot c.end_in.result.now _ c.end_in.ensures.end c.in-Idle.is)

pub returns-in-Withdrawing-clause-step : goal.returns-in-Withdrawing-clause-step
returns-in-Withdrawing-clause-step g c = λ told agrees.
    status_withdrawing c.args.self.now.plan told (place_of c.args.self.now.ends c.args.slot) (at_work g.L.Link.calls c.args.self.now c.args.work.now) c.in-Withdrawing.field-0.label
    (local_is c.args.self.now (g.L.Link.calls c.args.work.now.link.now) c.args.work.now.effects.now.list c.args.slot c.end_in.result.now _ c.end_in.ensures.end c.in-Withdrawing.is)
