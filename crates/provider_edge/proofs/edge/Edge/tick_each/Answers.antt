-- One more peer has the tick.
use Rattle.std.proofs.Common.{◌<◌, ap, length, refl, subst, arith}
use Rattle.net_base.specs.declared.plan.Plan.{Plan}
use Rattle.peer_dialogue.proofs.SpeakerLemmas.{agrees_before}
use Rattle.provider_edge.proofs.AtWorkLemmas.{works_both}
use Rattle.provider_edge.proofs.MessageLemmas.{tick_next}
use Rattle.provider_edge.specs.Lists.{EdgeLists}
use Rattle.provider_edge.proofs.edge.Edge.tick_each.Goals as goal

pub loop-place-preserved : goal.loop-place-preserved
loop-place-preserved g c = record {
  goes = works_both g.L.Link.calls _ _ _ _ _ _ c.loop-place.invariant.goes c.in_ok-tick_session.ensures.goes;
  step = λ told agrees. tick_next told c.loop-place.place (length c.args.self.now.plan.edges) (record { 0 = c.loop-place.place }) _ _ _
      (subst (λ (n : EdgeLists). c.loop-place.place < length n.plan.edges) c.self.view_is
      (omega (arith, c.loop-place-test.true, c.len-place-end.ensures, ap (λ (p : Plan). length p.edges) c.deref.ensures))) refl
      (c.loop-place.invariant.step told (agrees_before told _ _ c.in_ok-tick_session.ensures.goes.on.calls agrees)) (c.in_ok-tick_session.ensures.step told agrees);
}

pub returns-in_err-tick_session-clause-goes : goal.returns-in_err-tick_session-clause-goes
returns-in_err-tick_session-clause-goes g c = works_both g.L.Link.calls _ _ _ _ _ _ c.loop-place.invariant.goes c.tick_session.ensures.goes
