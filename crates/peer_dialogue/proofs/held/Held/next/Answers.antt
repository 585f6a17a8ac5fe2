-- The PDU in front is taken out.
use Rattle.std.proofs.Common.{◌∙◌, ℕ, List, ap, subst, sym}
use Rattle.peer_dialogue.specs.Hearing.{AreReady, IsAtPdu, StandsIn, alive, octets_in}
use Rattle.peer_dialogue.proofs.FrontLemmas.{front_pdu, front_ready}
use Rattle.peer_dialogue.proofs.held.Held.next.Goals as goal

pub invariant_of-self-in-KeepAlive : goal.invariant_of-self-in-KeepAlive
invariant_of-self-in-KeepAlive c =
    front_ready c.args.max c.in-Some.stream c.set_max.new.self c.pass.new.self (alive c.in-KeepAlive.sender c.in-KeepAlive.id) c.set_max.ensures (subst AreReady c.in-Some.is c.self.invariant)
    (subst (StandsIn c.set_max.new.self) c.in-KeepAlive.is c.in_ok-front_in.ensures) c.pass.ensures

pub invariant_of-self-in-Pdu : goal.invariant_of-self-in-Pdu
invariant_of-self-in-Pdu c =
    front_ready c.args.max c.in-Some.stream c.set_max.new.self c.pass-in-Pdu.new.self c.in-Pdu.pdu c.set_max.ensures (subst AreReady c.in-Some.is c.self.invariant)
    (subst (StandsIn c.set_max.new.self) c.in-Pdu.is c.in_ok-front_in.ensures) c.pass-in-Pdu.ensures

pub returns-in-KeepAlive-clause-next : goal.returns-in-KeepAlive-clause-next
returns-in-KeepAlive-clause-next c =
    let heard = alive c.in-KeepAlive.sender c.in-KeepAlive.id in
    subst (λ (l : List ℕ). IsAtPdu c.args.max l c.pass.new.self.held heard) (sym (ap octets_in c.in-Some.is) ∙ c.self.view_is)
    (front_pdu c.args.max c.in-Some.stream c.set_max.new.self c.pass.new.self heard c.requires.most c.set_max.ensures (subst AreReady c.in-Some.is c.self.invariant)
    (subst (StandsIn c.set_max.new.self) c.in-KeepAlive.is c.in_ok-front_in.ensures) c.pass.ensures)

pub returns-in-Pdu-clause-next : goal.returns-in-Pdu-clause-next
returns-in-Pdu-clause-next c =
    subst (λ (l : List ℕ). IsAtPdu c.args.max l c.pass-in-Pdu.new.self.held c.in-Pdu.pdu) (sym (ap octets_in c.in-Some.is) ∙ c.self.view_is)
    (front_pdu c.args.max c.in-Some.stream c.set_max.new.self c.pass-in-Pdu.new.self c.in-Pdu.pdu c.requires.most c.set_max.ensures (subst AreReady c.in-Some.is c.self.invariant)
    (subst (StandsIn c.set_max.new.self) c.in-Pdu.is c.in_ok-front_in.ensures) c.pass-in-Pdu.ensures)
