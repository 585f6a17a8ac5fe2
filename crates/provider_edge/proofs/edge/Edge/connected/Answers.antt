-- A peer that no segment joins to the edge, one whose end stands, and a pair that lacks a row of the plan, are idle. Any other peer is in
-- the plan; the session has proper values and begins, and the ends are mended.
use Rattle.std.proofs.Common.{◌≡◌, ◌∙◌, ap, sym, subst, true, refl}
use Rattle.net_values.proofs.BoolLemmas.{and_not_held, now_and_not_was}
use Rattle.net_base.specs.plan.Accepted.{IsChecked}
use Rattle.net_base.specs.plan.Paths.{are_joined}
use Rattle.edge_model.specs.declared.effects.Effects.{Effects}
use Rattle.edge_model.specs.Connection.{connected_input, connects}
use Rattle.edge_model.specs.State.{has_end}
use Rattle.edge_model.specs.Work.{beginning}
use Rattle.peer_dialogue.specs.Peering.{at_edge, connection_with}
use Rattle.peer_dialogue.proofs.SpeakerLemmas.{agrees_before, goes_nowhere}
use Rattle.peer_dialogue.proofs.SettleLemmas.{map_on}
use Rattle.provider_edge.proofs.edge.Edge.connected.Goals.{then-not-joined-via-then-not-joined, then-not-joined-via-else-not-joined+then-has_end}
use Rattle.peer_dialogue.proofs.AtWorkLemmas.{work_both}
use Rattle.provider_edge.proofs.AtWorkLemmas.{takes_by}
use Rattle.provider_edge.proofs.EdgeLemmas.{apart_test, begun, connected_done, connected_idle, connected_none, mended, peer_within}
use Rattle.provider_edge.proofs.ListLemmas.{keeps_both, keeps_same}
use Rattle.provider_edge.proofs.ProperLemmas.{proper_between}
use Rattle.provider_edge.specs.AtWork.{at_work}
use Rattle.provider_edge.specs.Lists.{EdgeLists, seen, worked}
use Rattle.provider_edge.proofs.edge.Edge.connected.Goals as goal

pub returns-then-not-joined-clause-step : goal.returns-then-not-joined-clause-step
returns-then-not-joined-clause-step g c = λ told agrees.
    let joined : c.joined.result ≡ are_joined c.args.self.now.plan c.args.self.now.me.0 c.args.peer.0 =
    c.joined.ensures in
    subst (λ (e : Effects). worked c.args.self.now (g.L.Link.calls c.args.work.now.link.now) (record e { idle = true })
    ≡ connected_input c.args.self.now.plan told c.args.peer (beginning (seen c.args.self.now) (g.L.Link.calls c.args.work.now.link.now))) (sym c.requires.fresh)
    (connected_idle c.args.self.now told c.args.peer (g.L.Link.calls c.args.work.now.link.now) (elim c.then-not-joined.branch [
      | then-not-joined-via-then-not-joined w ↦ apart_test (are_joined c.args.self.now.plan c.args.self.now.me.0 c.args.peer.0) (has_end (seen c.args.self.now) c.args.peer)
          (sym joined ∙ w.if-not-joined.true)
      | then-not-joined-via-else-not-joined+then-has_end w ↦
          and_not_held (are_joined c.args.self.now.plan c.args.self.now.me.0 c.args.peer.0) (has_end (seen c.args.self.now) c.args.peer) (sym w.has_end.ensures ∙ w.if-has_end.true)
    ]))

pub returns-in_default-clause-step : goal.returns-in_default-clause-step
returns-in_default-clause-step g c = λ told agrees.
    let joined : c.joined.result ≡ are_joined c.args.self.now.plan c.args.self.now.me.0 c.args.peer.0 =
    c.joined.ensures in
    subst (λ (e : Effects). worked c.args.self.now (g.L.Link.calls c.args.work.now.link.now) (record e { idle = true })
    ≡ connected_input c.args.self.now.plan told c.args.peer (beginning (seen c.args.self.now) (g.L.Link.calls c.args.work.now.link.now))) (sym c.requires.fresh)
    (connected_none c.args.self.now told c.args.peer c.peers_with.result (g.L.Link.calls c.args.work.now.link.now)
    (now_and_not_was (are_joined c.args.self.now.plan c.args.self.now.me.0 c.args.peer.0) (has_end (seen c.args.self.now) c.args.peer) (sym joined ∙ c.if-not-joined.false)
    (sym c.has_end.ensures ∙ c.if-has_end.false)) c.peers_with.ensures c.in_default.is)

pub connect-requires-clause-within : goal.connect-requires-clause-within
connect-requires-clause-within g c =
    peer_within c.args.self.now.plan _ c.args.peer c.in-Some.peers (sym c.peers_with.ensures ∙ c.in-Some.is)

pub connect-requires-clause-proper : goal.connect-requires-clause-proper
connect-requires-clause-proper g c =
    let joined : c.joined.result ≡ are_joined c.args.self.now.plan c.args.self.now.me.0 c.args.peer.0 =
    c.joined.ensures in
    proper_between c.args.self.now.plan c.args.self.now.me.0 c.args.peer.0 c.peers_with.result c.in-Some.peers
    (subst (λ (e : EdgeLists). IsChecked e.plan) c.self.view_is c.self.invariant.checked) (sym joined ∙ c.if-not-joined.false) c.peers_with.ensures c.in-Some.is

pub returns-clause-goes : goal.returns-clause-goes
returns-clause-goes g c = takes_by g.L.Link.calls _ _ _ _ (keeps_both c.args.self.now c.connect.new.self c.mend.new.self c.in_ok-connect.ensures.goes.keeps c.mend.ensures.goes.keeps)
    (work_both g.L.Link.calls _ _ _ c.in_ok-connect.ensures.goes.on c.mend.ensures.goes.on)

pub returns-clause-step : goal.returns-clause-step
returns-clause-step g c = map_on _ _ c.mend.result
    (λ step told agrees.
    let joined : c.joined.result ≡ are_joined c.args.self.now.plan c.args.self.now.me.0 c.args.peer.0 =
    c.joined.ensures in
    connected_done c.args.self.now told c.args.peer c.peers_with.result c.in-Some.peers (g.L.Link.calls c.args.work.now.link.now) _
    (now_and_not_was (are_joined c.args.self.now.plan c.args.self.now.me.0 c.args.peer.0) (has_end (seen c.args.self.now) c.args.peer) (sym joined ∙ c.if-not-joined.false)
    (sym c.has_end.ensures ∙ c.if-has_end.false))
    c.peers_with.ensures c.in-Some.is
    (mended c.args.self.now c.connect.new.self c.mend.new.self told (g.L.Link.calls c.connect.new.work.link.now)
    (g.L.Link.calls c.mend.new.work.link.now) c.connect.new.work.effects.now.list c.mend.new.work.effects.now
    (connects told c.args.peer (connection_with c.in-Some.peers) (beginning (seen c.args.self.now) (g.L.Link.calls c.args.work.now.link.now)))
    (c.mend.ensures.goes.on.idle ∙ (c.in_ok-connect.ensures.goes.on.idle ∙ ap (λ (e : Effects). e.idle) c.requires.fresh))
    c.in_ok-connect.ensures.goes.keeps
    (subst (λ (e : Effects). at_work g.L.Link.calls c.connect.new.self c.connect.new.work
    ≡ connects told c.args.peer (connection_with c.in-Some.peers) (at_edge (seen c.args.self.now) (g.L.Link.calls c.args.work.now.link.now) e.list)) c.requires.fresh
    (c.in_ok-connect.ensures.step told (agrees_before told _ _ c.mend.ensures.goes.on.calls agrees))
    ∙ ap (connects told c.args.peer (connection_with c.in-Some.peers)) (begun (seen c.args.self.now) (g.L.Link.calls c.args.work.now.link.now)))
    (step told agrees)))
    c.mend.ensures.step

pub returns-then-not-joined-clause-goes : goal.returns-then-not-joined-clause-goes
returns-then-not-joined-clause-goes g c = record { keeps = keeps_same c.args.self.now; link = refl; effects = refl; calls = goes_nowhere (g.L.Link.calls c.args.work.now.link.now) }

pub returns-in_default-clause-goes : goal.returns-in_default-clause-goes
returns-in_default-clause-goes g c = record { keeps = keeps_same c.args.self.now; link = refl; effects = refl; calls = goes_nowhere (g.L.Link.calls c.args.work.now.link.now) }

pub returns-in_err-connect-clause-goes : goal.returns-in_err-connect-clause-goes
returns-in_err-connect-clause-goes g c = takes_by g.L.Link.calls _ _ _ _ c.connect.ensures.goes.keeps c.connect.ensures.goes.on
