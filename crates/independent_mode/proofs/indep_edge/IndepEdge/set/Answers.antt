use Rattle.std.proofs.Common.{◌≡◌, ◌∙◌, Bool, Err, Ok, Some, ap, subst}
use Rattle.net_base.specs.declared.plan.Plan.{Plan}
use Rattle.net_base.specs.declared.plan.places.EdgeId.{EdgeId}
use Rattle.independent_model.specs.State.{IndepState}
use Rattle.independent_model.specs.Stops.{answers_of}
use Rattle.independent_model.specs.Wires.{other_end}
use Rattle.independent_model.proofs.StopLemmas.{agrees_self, ends_err, other_ends}
use Rattle.independent_mode.specs.Changed.{ChangesOnly}
use Rattle.independent_mode.specs.Lists.{independent_seen}
use Rattle.independent_mode.proofs.indep_edge.IndepEdge.set.Goals as goal

pub returns-in-Ok-clause-ends : goal.returns-in-Ok-clause-ends
returns-in-Ok-clause-ends g c =
    other_ends {T = Unit {0}} (Ok tt) c.set_wish.new.self.plan c.set_wish.new.self.me.0 c.args.wire.0 (other_end c.set_wish.new.self.plan c.set_wish.new.self.me.0 c.args.wire.0)
    (independent_seen c.set_wish.new.self) (independent_seen c.tell_other.new.self) (g.L.Link.calls c.args.link.now) (g.L.Link.calls c.tell_other.new.link)
    (c.in-Ok.ensures.speaks.step (answers_of (g.L.Link.calls c.tell_other.new.link)) (agrees_self (g.L.Link.calls c.tell_other.new.link)))

pub returns-in-Err-clause-ends : goal.returns-in-Err-clause-ends
returns-in-Err-clause-ends g c =
    ends_err (Unit {0}) Bool c.in-Err.stop (g.L.Link.calls c.args.link.now) (g.L.Link.calls c.tell_other.new.link)
    (other_ends {T = Unit {0}} (Err c.in-Err.stop) c.set_wish.new.self.plan c.set_wish.new.self.me.0 c.args.wire.0
    (other_end c.set_wish.new.self.plan c.set_wish.new.self.me.0 c.args.wire.0) (independent_seen c.set_wish.new.self) (independent_seen c.tell_other.new.self) (g.L.Link.calls c.args.link.now)
    (g.L.Link.calls c.tell_other.new.link)
    (c.in-Err.ensures.speaks.step (answers_of (g.L.Link.calls c.tell_other.new.link)) (agrees_self (g.L.Link.calls c.tell_other.new.link))))

pub returns-in-Err-clause-changed : goal.returns-in-Err-clause-changed
returns-in-Err-clause-changed g c = λ peer other.
    let same : other_end c.set_wish.new.self.plan c.set_wish.new.self.me.0 c.args.wire.0 ≡ Some peer =
    ap (λ (p : Plan). other_end p c.set_wish.new.self.me.0 c.args.wire.0) c.set_wish.ensures.keeps.plan
    ∙ (ap (λ (m : EdgeId). other_end c.args.self.now.plan m.0 c.args.wire.0) c.set_wish.ensures.keeps.me ∙ other) in
    subst (λ (e : IndepState). ChangesOnly peer.0 e (independent_seen c.tell_other.new.self)) c.set_wish.ensures.step (c.tell_other.ensures.changed peer same)
