-- Where the messages of a PDU stop the edge, or the receiver gives a stop and no PDU, the hearing of what is held stops there too.
use Rattle.std.proofs.Common.{◌≡◌, List, Some, Ok, Err, subst}
use Rattle.net_base.specs.declared.plan.Plan.{Plan}
use Rattle.net_base.specs.declared.plan.places.EdgeId.{EdgeId}
use Rattle.ldp_grammar.specs.declared.message.Message.{Message}
use Rattle.independent_model.specs.Hear.{independent_hears_messages}
use Rattle.independent_model.specs.Work.{Comes, Goes, NeverRefused}
use Rattle.independent_mode.specs.Changed.{ChangesOnly, HearsFront, learns_messages}
use Rattle.independent_mode.specs.Receiver.{IsGot, IsNext}
use Rattle.independent_mode.specs.Lists.{independent_seen}
use Rattle.independent_mode.proofs.ChangedLemmas.{all_more, some_all, some_more}
use Rattle.independent_mode.proofs.HearLemmas.{at_got, hears_stopped, next_stopped}
use Rattle.independent_mode.proofs.TellLemmas.{agrees_before, goes_both, keeps_both}
use Rattle.independent_mode.proofs.indep_edge.IndepEdge.hear_held.Goals as goal

pub returns-in-Err-hear_messages-clause-step : goal.returns-in-Err-hear_messages-clause-step
returns-in-Err-hear_messages-clause-step g c = λ told more agrees octets.
    let next_is : c.next.result ≡ Ok (Some c.in-Ok-Some.pdu) = cc (c.in-Ok-Some.is, c.in-Ok-Some.field-0-is) in
    let calls = g.L.Link.calls c.pdus.link in
    let after = g.L.Link.calls c.hear_messages.new.link in
    hears_stopped c.args.self.now.plan told c.args.self.now.me.0 c.args.work.peer (Unit {0}) (Unit {0}) c.in-Err-hear_messages.stop c.pdus.receiver c.next.new.self c.in-Ok-Some.pdu more _
    (independent_seen c.pdus.self) (independent_seen c.hear_messages.new.self) calls after
    (subst (IsNext c.pdus.receiver c.next.new.self) next_is c.next.ensures.next) octets
    (c.pdus.invariant.step told more (agrees_before told calls after c.hear_messages.ensures.speaks.goes agrees) octets)
    (subst (λ r. NeverRefused r) c.in-Err-hear_messages.is c.hear_messages.ensures.speaks.never)
    (subst (λ r. Comes r (independent_seen c.hear_messages.new.self) after
    (independent_hears_messages c.args.self.now.plan told c.args.self.now.me.0 c.args.work.peer c.in-Ok-Some.pdu.messages (independent_seen c.pdus.self) calls)) c.in-Err-hear_messages.is
    (subst (λ (p : Plan). Comes c.hear_messages.result (independent_seen c.hear_messages.new.self) after
    (independent_hears_messages p told c.args.self.now.me.0 c.args.work.peer c.in-Ok-Some.pdu.messages (independent_seen c.pdus.self) calls)) c.pdus.invariant.keeps.plan
    (subst (λ (m : EdgeId). Comes c.hear_messages.result (independent_seen c.hear_messages.new.self) after
    (independent_hears_messages c.pdus.self.plan told m.0 c.args.work.peer c.in-Ok-Some.pdu.messages (independent_seen c.pdus.self) calls)) c.pdus.invariant.keeps.me
    (subst (λ (ms : List Message). Comes c.hear_messages.result (independent_seen c.hear_messages.new.self) after
    (independent_hears_messages c.pdus.self.plan told c.pdus.self.me.0 c.args.work.peer ms (independent_seen c.pdus.self) calls)) c.as_slice.ensures
    (c.hear_messages.ensures.speaks.step told agrees)))))

pub returns-in-Err-clause-step : goal.returns-in-Err-clause-step
returns-in-Err-clause-step g c = λ told more agrees octets.
    let next_is : c.next.result ≡ Err c.in-Err.stop = c.in-Err.is in
    next_stopped c.args.self.now.plan told c.args.self.now.me.0 c.args.work.peer (Unit {0}) c.in-Err.stop c.pdus.receiver c.next.new.self more _ (independent_seen c.pdus.self) (g.L.Link.calls c.pdus.link)
    (subst (IsNext c.pdus.receiver c.next.new.self) next_is c.next.ensures.next) octets (c.pdus.invariant.step told more agrees octets)

pub returns-in-Err-hear_messages-clause-some : goal.returns-in-Err-hear_messages-clause-some
returns-in-Err-hear_messages-clause-some g c =
    let plan = c.args.self.now.plan in
    let me = c.args.self.now.me.0 in
    let next_is : c.next.result ≡ Ok (Some c.in-Ok-Some.pdu) = cc (c.in-Ok-Some.is, c.in-Ok-Some.field-0-is) in
    let got : IsGot c.pdus.receiver c.next.new.self c.in-Ok-Some.pdu = subst (IsNext c.pdus.receiver c.next.new.self) next_is c.next.ensures.next in
    some_more plan me c.args.work.peer c.args.receiver.now.held c.pdus.receiver c.next.new.self c.in-Ok-Some.pdu (independent_seen c.args.self.now) (independent_seen c.pdus.self)
    (independent_seen c.hear_messages.new.self) c.pdus.invariant.heard got
    (subst (λ (p : Plan). HearsFront p me c.args.work.peer c.in-Ok-Some.pdu.messages (independent_seen c.pdus.self) (independent_seen c.hear_messages.new.self)) c.pdus.invariant.keeps.plan
    (subst (λ (m : EdgeId). HearsFront c.pdus.self.plan m.0 c.args.work.peer c.in-Ok-Some.pdu.messages (independent_seen c.pdus.self) (independent_seen c.hear_messages.new.self)) c.pdus.invariant.keeps.me
    (subst (λ (ms : List Message). HearsFront c.pdus.self.plan c.pdus.self.me.0 c.args.work.peer ms (independent_seen c.pdus.self) (independent_seen c.hear_messages.new.self)) c.as_slice.ensures
    c.hear_messages.ensures.front)))

pub returns-in-Err-clause-some : goal.returns-in-Err-clause-some
returns-in-Err-clause-some g c =
    some_all c.args.self.now.plan c.args.self.now.me.0 c.args.work.peer c.args.receiver.now.held c.pdus.receiver.held (independent_seen c.args.self.now) (independent_seen c.pdus.self)
    c.pdus.invariant.heard

pub pdus-preserved : goal.pdus-preserved
pdus-preserved g c =
    let plan = c.args.self.now.plan in
    let me = c.args.self.now.me.0 in
    let next_is : c.next.result ≡ Ok (Some c.in-Ok-Some.pdu) = cc (c.in-Ok-Some.is, c.in-Ok-Some.field-0-is) in
    let got : IsGot c.pdus.receiver c.next.new.self c.in-Ok-Some.pdu = subst (IsNext c.pdus.receiver c.next.new.self) next_is c.next.ensures.next in
    let calls = g.L.Link.calls c.pdus.link in
    let after = g.L.Link.calls c.hear_messages.new.link in
    record {
      keeps = keeps_both c.args.self.now c.pdus.self c.hear_messages.new.self c.pdus.invariant.keeps c.hear_messages.ensures.speaks.keeps;
      goes = goes_both (g.L.Link.calls c.args.link.now) calls after c.pdus.invariant.goes c.hear_messages.ensures.speaks.goes;
      step = λ told more agrees octets.
          at_got plan told me c.args.work.peer c.pdus.receiver c.next.new.self c.in-Ok-Some.pdu more _ (independent_seen c.pdus.self) (independent_seen c.hear_messages.new.self) calls after got octets
          (c.pdus.invariant.step told more (agrees_before told calls after c.hear_messages.ensures.speaks.goes agrees) octets)
          (subst (λ (p : Plan). independent_hears_messages p told me c.args.work.peer c.in-Ok-Some.pdu.messages (independent_seen c.pdus.self) calls
          ≡ Goes (independent_seen c.hear_messages.new.self) after) c.pdus.invariant.keeps.plan
          (subst (λ (m : EdgeId). independent_hears_messages c.pdus.self.plan told m.0 c.args.work.peer c.in-Ok-Some.pdu.messages (independent_seen c.pdus.self) calls
          ≡ Goes (independent_seen c.hear_messages.new.self) after) c.pdus.invariant.keeps.me
          (subst (λ (ms : List Message). independent_hears_messages c.pdus.self.plan told c.pdus.self.me.0 c.args.work.peer ms (independent_seen c.pdus.self) calls
          ≡ Goes (independent_seen c.hear_messages.new.self) after) c.as_slice.ensures (c.in-Ok.ensures.speaks.step told agrees))));
      heard = all_more plan me c.args.work.peer c.args.receiver.now.held c.pdus.receiver c.next.new.self c.in-Ok-Some.pdu (independent_seen c.args.self.now) (independent_seen c.pdus.self)
          (independent_seen c.hear_messages.new.self) c.pdus.invariant.heard got
          (subst (λ (p : Plan). ChangesOnly c.args.work.peer.0 (learns_messages p me c.args.work.peer c.in-Ok-Some.pdu.messages (independent_seen c.pdus.self)) (independent_seen c.hear_messages.new.self))
          c.pdus.invariant.keeps.plan
          (subst (λ (m : EdgeId). ChangesOnly c.args.work.peer.0 (learns_messages c.pdus.self.plan m.0 c.args.work.peer c.in-Ok-Some.pdu.messages (independent_seen c.pdus.self))
          (independent_seen c.hear_messages.new.self)) c.pdus.invariant.keeps.me
          (subst (λ (ms : List Message). ChangesOnly c.args.work.peer.0 (learns_messages c.pdus.self.plan c.pdus.self.me.0 c.args.work.peer ms (independent_seen c.pdus.self))
          (independent_seen c.hear_messages.new.self)) c.as_slice.ensures c.in-Ok.ensures.all)));
    }
