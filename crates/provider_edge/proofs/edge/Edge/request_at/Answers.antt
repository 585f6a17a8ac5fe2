-- An end that has told no label, holds no binding, or has picked no channel asks nothing; else it asks the next ping, where there is one.
use Rattle.std.proofs.Common.{Some, ap, option_copied, subst, sym, ◌∙◌}
use Rattle.pw_signalling.specs.End.{EndState}
use Rattle.pw_stitch.specs.Stitch.{has_told}
use Rattle.provider_edge.proofs.EchoLemmas.{request_free, request_made, request_unpicked, request_untold}
use Rattle.provider_edge.proofs.ListLemmas.{slot_wire}
use Rattle.provider_edge.specs.Invariant.{IsEdge}
use Rattle.provider_edge.specs.Pings.{request_by}
use Rattle.provider_edge.proofs.edge.Edge.request_at.Goals as goal

pub returns-then-not-has_told : goal.returns-then-not-has_told
returns-then-not-has_told c =
    request_untold c.args.self.now c.args.slot c.has_told.result (slot_wire c.args.self.now c.args.slot (subst IsEdge c.self.view_is c.self.invariant) c.requires)
    (c.has_told.ensures ∙ ap (λ (e : EndState). has_told e.local) c.end_in-end.ensures.end) c.if-not-has_told.true

pub returns-in_default : goal.returns-in_default
returns-in_default c =
    request_free c.args.self.now c.args.slot c.has_told.result (slot_wire c.args.self.now c.args.slot (subst IsEdge c.self.view_is c.self.invariant) c.requires)
    (c.has_told.ensures ∙ ap (λ (e : EndState). has_told e.local) c.end_in-end.ensures.end) c.if-not-has_told.false
    (sym (c.remote.ensures.remote ∙ ap (λ (e : EndState). e.remote) c.end_in-end.ensures.end) ∙ ap option_copied c.in_default.is)

pub returns-in_default-channel_at : goal.returns-in_default-channel_at
returns-in_default-channel_at c =
    request_unpicked c.args.self.now c.args.slot c.has_told.result c.in-Some.binding.now c.channel_at.result
    (slot_wire c.args.self.now c.args.slot (subst IsEdge c.self.view_is c.self.invariant) c.requires)
    (c.has_told.ensures ∙ ap (λ (e : EndState). has_told e.local) c.end_in-end.ensures.end) c.if-not-has_told.false
    (sym (c.remote.ensures.remote ∙ ap (λ (e : EndState). e.remote) c.end_in-end.ensures.end) ∙ ap option_copied c.in-Some.is) c.channel_at.ensures c.in_default-channel_at.is

pub returns-in_default-ping_at : goal.returns-in_default-ping_at
returns-in_default-ping_at c =
    request_made c.args.self.now c.args.slot c.has_told.result c.in-Some.binding.now c.channel_at.result c.in-Some-channel_at.kind c.ping_at.result _
    (slot_wire c.args.self.now c.args.slot (subst IsEdge c.self.view_is c.self.invariant) c.requires)
    (c.has_told.ensures ∙ ap (λ (e : EndState). has_told e.local) c.end_in-end.ensures.end) c.if-not-has_told.false
    (sym (c.remote.ensures.remote ∙ ap (λ (e : EndState). e.remote) c.end_in-end.ensures.end) ∙ ap option_copied c.in-Some.is) c.channel_at.ensures c.in-Some-channel_at.is c.ping_at.ensures
    (sym (ap (request_by c.in-Some-channel_at.kind c.in-Some.binding.now) c.in_default-ping_at.is))

pub returns : goal.returns
returns c =
    request_made c.args.self.now c.args.slot c.has_told.result c.in-Some.binding.now c.channel_at.result c.in-Some-channel_at.kind c.ping_at.result _
    (slot_wire c.args.self.now c.args.slot (subst IsEdge c.self.view_is c.self.invariant) c.requires)
    (c.has_told.ensures ∙ ap (λ (e : EndState). has_told e.local) c.end_in-end.ensures.end) c.if-not-has_told.false
    (sym (c.remote.ensures.remote ∙ ap (λ (e : EndState). e.remote) c.end_in-end.ensures.end) ∙ ap option_copied c.in-Some.is) c.channel_at.ensures c.in-Some-channel_at.is c.ping_at.ensures
    (ap Some c.in_ok-packet.ensures ∙ sym (ap (request_by c.in-Some-channel_at.kind c.in-Some.binding.now) c.in-Some-ping_at.is))
