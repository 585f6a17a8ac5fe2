-- What has a fault is dropped, and an answer is told. A request lies within the payload, and is answered under the binding that the end
-- holds.
use Rattle.std.proofs.Common.{Ok, [], ap, option_copied, subst, sym, ◌∙◌, ◌++◌, ◌∷◌}
use Rattle.edge_model.specs.declared.effect.Effect.TheVariants.{Pong}
use Rattle.edge_model.specs.declared.end_place.EndPlace.{EndPlace}
use Rattle.pw_ends.specs.Ends.{end_in, place_of}
use Rattle.pw_signalling.specs.End.{EndState}
use Rattle.peer_dialogue.proofs.SettleLemmas.{map_on}
use Rattle.provider_edge.proofs.EchoLemmas.{answered, faulty, header_within, length_within, ponged, replied}
use Rattle.provider_edge.specs.AtWork.{at_work}
use Rattle.provider_edge.specs.Lists.{seen}
use Rattle.vccv_channel.specs.Reading.{IsRequest}
use Rattle.provider_edge.proofs.edge.Edge.verify.Goals as goal

pub returns-in-Err-clause-step : goal.returns-in-Err-clause-step
returns-in-Err-clause-step g c = map_on _ _ c.drop_for.result
    (λ gave. λ told row binding agrees at held.
    faulty told (place_of c.args.self.now.ends c.args.slot) row c.args.kind binding c.has_header-header.result c.ping_number.result c.args.payload.now c.in-Err.fault c.cause.result
    (seen c.args.self.now) (g.L.Link.calls c.args.work.now.link.now) c.args.work.now.effects.now.list _
    c.has_header-header.ensures (c.ping_number.ensures.row row at) (sym c.in-Err.is ∙ c.read_echo.ensures.reads) c.cause.ensures gave)
    c.drop_for.ensures

pub returns-in-Answer-clause-step : goal.returns-in-Answer-clause-step
returns-in-Answer-clause-step g c = map_on _ _ c.push.result
    (λ gave. λ told row binding agrees at held.
    ponged told (place_of c.args.self.now.ends c.args.slot) row c.args.kind binding c.has_header-header.result c.ping_number.result c.args.payload.now c.in-Answer.sequence
    (seen c.args.self.now) (g.L.Link.calls c.args.work.now.link.now) c.args.work.now.effects.now.list _
    c.has_header-header.ensures (c.ping_number.ensures.row row at) (sym (c.in-Ok.is ∙ ap Ok c.in-Answer.is) ∙ c.read_echo.ensures.reads)
    (gave ∙ ap (λ (p : EndPlace). c.args.work.now.effects.now.list ++ Pong p.wire c.in-Answer.sequence ∷ []) c.place_at.ensures.place))
    c.push.ensures.ok

pub ip_packet-ip-requires-clause-header : goal.ip_packet-ip-requires-clause-header
ip_packet-ip-requires-clause-header g c =
    header_within c.has_header-header.result c.ping_number.result c.args.payload.now _ _ _ c.in-Request.length (sym c.read_echo.ensures.reads ∙ (c.in-Ok.is ∙ ap Ok c.in-Request.is))

pub ip_packet-ip-requires-clause-whole : goal.ip_packet-ip-requires-clause-whole
ip_packet-ip-requires-clause-whole g c =
    length_within c.has_header-header.result c.ping_number.result c.args.payload.now _ _ _ c.in-Request.length (sym c.read_echo.ensures.reads ∙ (c.in-Ok.is ∙ ap Ok c.in-Request.is))

pub answer_under-requires : goal.answer_under-requires
answer_under-requires g c = subst IsRequest (sym c.ip_packet-ip.ensures) (c.read_echo.ensures.request _ _ _ _ (c.in-Ok.is ∙ ap Ok c.in-Request.is))

pub returns-in_default-clause-step : goal.returns-in_default-clause-step
returns-in_default-clause-step g c = λ told row binding agrees at held.
    absurd (cc (sym held ∙ (sym (c.remote.ensures.remote ∙ ap (λ (e : EndState). e.remote) c.end_in.ensures.end) ∙ ap option_copied c.in_default.is)))

pub returns-clause-step : goal.returns-clause-step
returns-clause-step g c = map_on _ _ c.send.result
    (λ step. λ told row binding agrees at held.
    replied told (place_of c.args.self.now.ends c.args.slot) row c.args.kind binding c.has_header-header.result c.ping_number.result c.args.payload.now c.ip_packet-ip.result.now _ _ _ c.in-Request.length (at_work g.L.Link.calls c.args.self.now c.args.work.now) _
    c.has_header-header.ensures (c.ping_number.ensures.row row at) (sym (c.in-Ok.is ∙ ap Ok c.in-Request.is) ∙ c.read_echo.ensures.reads) c.ip_packet-ip.ensures
    (answered told (place_of c.args.self.now.ends c.args.slot) c.args.kind (end_in c.args.self.now.ends c.args.slot).remote c.in-Some.binding.now binding c.ip_packet-ip.result.now _
    (at_work g.L.Link.calls c.args.self.now c.args.work.now) _
    c.in_ok-packet.ensures
    (sym (c.remote.ensures.remote ∙ ap (λ (e : EndState). e.remote) c.end_in.ensures.end) ∙ ap option_copied c.in-Some.is) held (step told agrees)))
    c.send.ensures.step
