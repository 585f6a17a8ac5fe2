-- A KeepAlive or any other PDU in front is heard, and what stands behind it is left. A fault in front ends the session.
use Rattle.std.proofs.Common.{◌++◌, refl, subst}
use Rattle.peer_dialogue.specs.Hearing.{IsAtFault, IsAtPdu, StandsNext, alive}
use Rattle.peer_dialogue.proofs.HearLemmas.{on_both}
use Rattle.peer_dialogue.proofs.SettleLemmas.{map_on}
use Rattle.peer_dialogue.proofs.SpeakerLemmas.{agrees_before}
use Rattle.provider_edge.proofs.AtWorkLemmas.{works_both}
use Rattle.provider_edge.proofs.MessageLemmas.{fault_on, on_two, pdu_on, waits_none}
use Rattle.provider_edge.specs.AtWork.{at_work}
use Rattle.provider_edge.specs.Lists.{seen}
use Rattle.provider_edge.proofs.edge.Edge.hear_held.Goals as goal

pub pdus-preserved : goal.pdus-preserved
pdus-preserved g c =
    let at : IsAtPdu c.in-Some.max c.pdus.held c.next.new.self c.in-Pdu.pdu = subst (StandsNext c.in-Some.max c.pdus.held c.next.new.self) c.in-Pdu.is c.in_ok-next.ensures.next in
    record {
      goes = works_both g.L.Link.calls _ _ _ _ _ _ c.pdus.invariant.goes c.in_ok-hear_pdu-in-Pdu.ensures.goes;
      step = λ told more agrees octets.
          on_both c.args.self.now.plan told c.args.peer _ (c.pdus.held ++ more) _ _ (at_work g.L.Link.calls c.pdus.self c.pdus.work) _
          (c.pdus.invariant.step told more (agrees_before told _ _ c.in_ok-hear_pdu-in-Pdu.ensures.goes.on.calls agrees) octets)
          (pdu_on c.args.self.now.plan c.pdus.self.plan told c.args.peer c.pdus.held c.next.new.self more c.in-Pdu.pdu c.in-Some.max (seen c.pdus.self)
          (g.L.Link.calls c.pdus.work.link.now) c.pdus.work.effects.now.list _
          c.pdus.invariant.goes.keeps.plan c.next.ensures.octets octets c.in-Some.ensures.longest c.in-Some.ensures.value at (c.in_ok-hear_pdu-in-Pdu.ensures.step told agrees));
    }

pub pdus-preserved-in-Continue-branch-3 : goal.pdus-preserved-in-Continue-branch-3
pdus-preserved-in-Continue-branch-3 g c =
    let at : IsAtPdu c.in-Some.max c.pdus.held c.next.new.self (alive c.in-KeepAlive.sender c.in-KeepAlive.id) =
    subst (StandsNext c.in-Some.max c.pdus.held c.next.new.self) c.in-KeepAlive.is c.in_ok-next.ensures.next in
    record {
      goes = works_both g.L.Link.calls _ _ _ _ _ _ c.pdus.invariant.goes c.in_ok-hear_keep_alive-in-KeepAlive.ensures.goes;
      step = λ told more agrees octets.
          on_both c.args.self.now.plan told c.args.peer _ (c.pdus.held ++ more) _ _ (at_work g.L.Link.calls c.pdus.self c.pdus.work) _
          (c.pdus.invariant.step told more (agrees_before told _ _ c.in_ok-hear_keep_alive-in-KeepAlive.ensures.goes.on.calls agrees) octets)
          (pdu_on c.args.self.now.plan c.pdus.self.plan told c.args.peer c.pdus.held c.next.new.self more
          (alive c.in-KeepAlive.sender c.in-KeepAlive.id) c.in-Some.max (seen c.pdus.self) (g.L.Link.calls c.pdus.work.link.now) c.pdus.work.effects.now.list _
          c.pdus.invariant.goes.keeps.plan c.next.ensures.octets octets c.in-Some.ensures.longest c.in-Some.ensures.value at (c.in_ok-hear_keep_alive-in-KeepAlive.ensures.step told agrees));
    }

pub returns-in-Fault-clause-waiting : goal.returns-in-Fault-clause-waiting
returns-in-Fault-clause-waiting g c = map_on _ _ c.happens.result
    (λ ended. waits_none ((seen c.happens.new.self).peering c.args.peer.0) c.next.new.self (ended c.in-Fault.fault refl))
    c.happens.ensures.ended

pub returns-in-Fault-clause-step : goal.returns-in-Fault-clause-step
returns-in-Fault-clause-step g c =
    let at : IsAtFault c.in-Some.max c.pdus.held c.in-Fault.fault = subst (StandsNext c.in-Some.max c.pdus.held c.next.new.self) c.in-Fault.is c.in_ok-next.ensures.next in
    on_two _ _ _ c.happens.result
    (λ ended step told more agrees octets.
    on_both c.args.self.now.plan told c.args.peer _ (c.pdus.held ++ more) _ _ (at_work g.L.Link.calls c.pdus.self c.pdus.work) _
    (c.pdus.invariant.step told more (agrees_before told _ _ c.happens.ensures.goes.on.calls agrees) octets)
    (fault_on c.args.self.now.plan told c.args.peer c.pdus.held (c.next.new.self ++ more) more c.in-Fault.fault c.in-Some.max (seen c.pdus.self) (seen c.happens.new.self)
    (g.L.Link.calls c.pdus.work.link.now) (g.L.Link.calls c.happens.new.work.link.now) c.pdus.work.effects.now.list c.happens.new.work.effects.now.list
    c.next.ensures.octets octets c.in-Some.ensures.longest c.in-Some.ensures.value at (step told agrees) (ended c.in-Fault.fault refl)))
    c.happens.ensures.ended c.happens.ensures.step

pub returns-in-Fault-clause-goes : goal.returns-in-Fault-clause-goes
returns-in-Fault-clause-goes g c = works_both g.L.Link.calls _ _ _ _ _ _ c.pdus.invariant.goes c.happens.ensures.goes

pub returns-in_err-hear_pdu-in-Pdu-clause-goes : goal.returns-in_err-hear_pdu-in-Pdu-clause-goes
returns-in_err-hear_pdu-in-Pdu-clause-goes g c = works_both g.L.Link.calls _ _ _ _ _ _ c.pdus.invariant.goes c.hear_pdu.ensures.goes

pub returns-in_err-hear_keep_alive-in-KeepAlive-clause-goes : goal.returns-in_err-hear_keep_alive-in-KeepAlive-clause-goes
returns-in_err-hear_keep_alive-in-KeepAlive-clause-goes g c = works_both g.L.Link.calls _ _ _ _ _ _ c.pdus.invariant.goes c.hear_keep_alive.ensures.goes
