-- What has a fault is dropped; a frame of one part, and one that was joined of two, is received as in the definition.
use Rattle.std.proofs.Common.{◌≡◌, ◌∙◌, ◌++◌, Ok, Err, ap, sym, subst}
use Rattle.std.specs.Prelude.{MatchResult}
use Rattle.eth_encap.specs.Fault.{cause_of}
use Rattle.peer_dialogue.proofs.SettleLemmas.{map_on}
use Rattle.provider_edge.proofs.BridgeLemmas.{received_err, received_ok, received_whole}
use Rattle.provider_edge.specs.AtWork.{at_work}
use Rattle.provider_edge.specs.Lists.{seen}
use Rattle.provider_edge.proofs.edge.Edge.bridge_frame.Goals as goal

pub returns-in-Err-clause-step : goal.returns-in-Err-clause-step
returns-in-Err-clause-step g c = map_on _ _ c.drop_for.result
    (λ gave. λ told formed agrees read.
    let is = subst (λ r. MatchResult r (λ parts. formed ≡ Ok (parts.0.now ++ parts.1.now)) (λ fault. formed ≡ Err (cause_of fault))) c.in-Err.is read in
    received_err c.args.self.now.plan told c.args.ingress.came c.args.ingress.service c.args.ingress.port formed c.cause.result (seen c.args.self.now)
    (g.L.Link.calls c.args.work.now.link.now) c.args.work.now.effects.now.list _ (is ∙ ap Err (sym c.cause.ensures)) gave)
    c.drop_for.ensures

pub returns-then-is_empty-clause-step : goal.returns-then-is_empty-clause-step
returns-then-is_empty-clause-step g c = map_on _ _ c.bridge_octets.result
    (λ step. λ told formed agrees read.
    let is = subst (λ r. MatchResult r (λ parts. formed ≡ Ok (parts.0.now ++ parts.1.now)) (λ fault. formed ≡ Err (cause_of fault))) c.in-Ok.is read in
    received_whole c.args.self.now.plan told c.args.ingress.came c.args.ingress.service c.args.ingress.port formed c.in-Ok.parts.0.now c.in-Ok.parts.1.now
    (at_work g.L.Link.calls c.args.self.now c.args.work.now) _ is (sym c.is_empty.ensures ∙ c.if-is_empty.true) (step told agrees))
    c.bridge_octets.ensures.step

pub returns-clause-step : goal.returns-clause-step
returns-clause-step g c = map_on _ _ c.bridge_octets-2.result
    (λ step. λ told formed agrees read.
    let is = subst (λ r. MatchResult r (λ parts. formed ≡ Ok (parts.0.now ++ parts.1.now)) (λ fault. formed ≡ Err (cause_of fault))) c.in-Ok.is read in
    received_ok c.args.self.now.plan told c.args.ingress.came c.args.ingress.service c.args.ingress.port formed _ c.as_slice.result.now
    (at_work g.L.Link.calls c.args.self.now c.args.work.now) _ is (c.as_slice.ensures ∙ c.in_ok-frame.ensures) (step told agrees))
    c.bridge_octets-2.ensures.step
