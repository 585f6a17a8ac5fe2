-- An end that advertises puts the piece; an idle end, and one that withdraws, put none.
use Rattle.std.proofs.Common.{◌∙◌, ap, sym}
use Rattle.pw_messages.specs.Content.{mac_withdrawal}
use Rattle.pw_ends.specs.Ends.{place_of}
use Rattle.pw_signalling.specs.End.{Advertised}
use Rattle.pw_signalling.specs.declared.told.Told.{Told}
use Rattle.edge_model.specs.declared.end_place.EndPlace.{EndPlace}
use Rattle.edge_model.specs.Session.{says}
use Rattle.peer_dialogue.proofs.SettleLemmas.{map_ok}
use Rattle.provider_edge.proofs.MendLemmas.{local_is}
use Rattle.provider_edge.proofs.WithdrawLemmas.{piece_idle, piece_put, piece_withdrawing}
use Rattle.provider_edge.specs.AtWork.{at_work}
use Rattle.provider_edge.proofs.edge.Edge.tell_piece.Goals as goal

pub returns-in-Advertised-clause-step : goal.returns-in-Advertised-clause-step
returns-in-Advertised-clause-step g c =
    map_ok _ _ c.say.result (λ failed said. λ told agrees.
    piece_put told (place_of c.args.self.now.ends c.args.slot) c.args.addresses.now (at_work g.L.Link.calls c.args.self.now c.args.work.now) c.in-Advertised.end.label c.told-content.result.now
    (record { work = at_work g.L.Link.calls c.say.new.self c.say.new.work; failed = failed })
    (local_is c.args.self.now (g.L.Link.calls c.args.work.now.link.now) c.args.work.now.effects.now.list c.args.slot c.end_in.result.now _ c.end_in.ensures.end c.in-Advertised.is
    ∙ ap (λ (t : Told). Advertised c.in-Advertised.end.label t) (sym c.told-content.ensures.told))
    (said told agrees ∙ ap (λ (p : EndPlace). says told p.peer (mac_withdrawal p.pw_id c.args.addresses.now c.told-content.result.now)
    (at_work g.L.Link.calls c.args.self.now c.args.work.now)) c.place_at-place.ensures.place))
    c.say.ensures.step

pub returns-in-Idle-clause-step : goal.returns-in-Idle-clause-step
returns-in-Idle-clause-step g c = λ told agrees.
    piece_idle told (place_of c.args.self.now.ends c.args.slot) c.args.addresses.now (at_work g.L.Link.calls c.args.self.now c.args.work.now) c.in-Idle.field-0.declined
    (local_is c.args.self.now (g.L.Link.calls c.args.work.now.link.now) c.args.work.now.effects.now.list c.args.slot c.end_in.result.now _ c.end_in.ensures.end c.in-Idle.is)

pub returns-in-Withdrawing-clause-step : goal.returns-in-Withdrawing-clause-step
returns-in-Withdrawing-clause-step g c = λ told agrees.
    piece_withdrawing told (place_of c.args.self.now.ends c.args.slot) c.args.addresses.now (at_work g.L.Link.calls c.args.self.now c.args.work.now) c.in-Withdrawing.field-0.label
    (local_is c.args.self.now (g.L.Link.calls c.args.work.now.link.now) c.args.work.now.effects.now.list c.args.slot c.end_in.result.now _ c.end_in.ensures.end c.in-Withdrawing.is)
