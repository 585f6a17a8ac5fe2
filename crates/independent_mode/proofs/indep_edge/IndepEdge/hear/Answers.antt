use Rattle.std.proofs.Common.{◌++◌, subst}
use Rattle.net_base.specs.declared.plan.Plan.{Plan}
use Rattle.net_base.specs.declared.plan.places.EdgeId.{EdgeId}
use Rattle.independent_model.specs.Stops.{answers_of}
use Rattle.independent_model.proofs.StopLemmas.{agrees_self, at_ends}
use Rattle.independent_mode.specs.Changed.{HearsSome}
use Rattle.independent_mode.specs.Lists.{independent_seen}
use Rattle.independent_mode.specs.Receiver.{kept_after, receiver_of}
use Rattle.independent_mode.proofs.ChangedLemmas.{come_some}
use Rattle.independent_mode.proofs.indep_edge.IndepEdge.hear.Goals as goal

pub returns-clause-ends : goal.returns-clause-ends
returns-clause-ends g c =
    at_ends c.hear_octets-heard.result c.take_receiver.new.self.plan c.take_receiver.new.self.me.0 c.args.peer (receiver_of c.in-Some.receiver) c.args.bytes.now (independent_seen c.take_receiver.new.self)
    (kept_after c.args.peer.0 c.hear_octets-heard.new.receiver c.hear_octets-heard.result (independent_seen c.hear_octets-heard.new.self)) (g.L.Link.calls c.args.link.now)
    (g.L.Link.calls c.hear_octets-heard.new.link)
    (c.hear_octets-heard.ensures.step (answers_of (g.L.Link.calls c.hear_octets-heard.new.link)) (agrees_self (g.L.Link.calls c.hear_octets-heard.new.link)))

pub returns-clause-changed : goal.returns-clause-changed
returns-clause-changed g c =
    let plan = c.args.self.now.plan in
    let me = c.args.self.now.me.0 in
    come_some plan me c.args.peer c.args.bytes.now c.in-Some.receiver c.hear_octets-heard.new.receiver c.hear_octets-heard.result (independent_seen c.args.self.now)
    (independent_seen c.take_receiver.new.self) (independent_seen c.hear_octets-heard.new.self) (independent_seen c.keep_receiver.new.self) c.in-Some.ensures.step
    (subst (λ (p : Plan). HearsSome p me c.args.peer (c.in-Some.receiver.held ++ c.args.bytes.now) (independent_seen c.take_receiver.new.self) (independent_seen c.hear_octets-heard.new.self))
    c.take_receiver.ensures.keeps.plan
    (subst (λ (m : EdgeId). HearsSome c.take_receiver.new.self.plan m.0 c.args.peer (c.in-Some.receiver.held ++ c.args.bytes.now) (independent_seen c.take_receiver.new.self)
    (independent_seen c.hear_octets-heard.new.self)) c.take_receiver.ensures.keeps.me c.hear_octets-heard.ensures.some))
    c.keep_receiver.ensures.step
