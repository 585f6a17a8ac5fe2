-- Once what was held is heard and one more piece is held, hearing what is left from there is hearing all from the start.
use Rattle.std.proofs.Common.{◌≡◌, ◌∙◌, ◌++◌, arith, drop, length, refl, rules, subst, take}
use Rattle.net_base.specs.declared.plan.Plan.{Plan}
use Rattle.net_base.specs.declared.plan.places.EdgeId.{EdgeId}
use Rattle.net_values.specs.Octets.{AreOctets}
use Rattle.ldp_grammar.proofs.OctetLemmas.{octets_drop, octets_take}
use Rattle.independent_model.specs.Hear.{hears_at}
use Rattle.independent_mode.specs.Receiver.{receiver_of}
use Rattle.independent_mode.specs.Lists.{independent_seen}
use Rattle.independent_mode.specs.Changed.{HearsAll, HearsSome}
use Rattle.independent_mode.specs.Heard.{HearsTo}
use Rattle.independent_mode.proofs.ChangedLemmas.{all_both, all_fed, all_start, some_both, some_fed}
use Rattle.independent_mode.proofs.HearLemmas.{all_heard, fed_at, on_ok, part_stopped}
use Rattle.independent_mode.proofs.TellLemmas.{agrees_before, goes_both, keeps_both, same_calls}
use Rattle.independent_mode.proofs.indep_edge.IndepEdge.hear_octets.Goals as goal

pub hearing-init : goal.hearing-init
hearing-init g c = record {
  keeps = record { plan = refl; me = refl };
  goes = same_calls (g.L.Link.calls c.args.link.now);
  within = omega arith;
  step = λ told agrees. refl;
  heard = all_start c.args.self.now.plan c.args.self.now.me.0 c.args.work.peer c.args.receiver.now.held c.args.octets.now (independent_seen c.args.self.now);
}

pub returns-in-Err-clause-keeps : goal.returns-in-Err-clause-keeps
returns-in-Err-clause-keeps g c = keeps_both c.args.self.now c.hearing.self c.hear_held.new.self c.hearing.invariant.keeps c.hear_held.ensures.keeps

pub returns-in-Err-clause-goes : goal.returns-in-Err-clause-goes
returns-in-Err-clause-goes g c =
    goes_both (g.L.Link.calls c.args.link.now) (g.L.Link.calls c.hearing.link) (g.L.Link.calls c.hear_held.new.link) c.hearing.invariant.goes c.hear_held.ensures.goes

pub returns-in-Err-clause-step : goal.returns-in-Err-clause-step
returns-in-Err-clause-step g c = λ told agrees.
    let octets : AreOctets c.args.octets.now = λ i. omega (arith, c.type_inv.octets i) in
    let plan = c.args.self.now.plan in
    let me = c.args.self.now.me.0 in
    let calls = g.L.Link.calls c.hearing.link in
    let after = g.L.Link.calls c.hear_held.new.link in
    let left = drop c.hearing.at c.args.octets.now in
    let now = independent_seen c.hear_held.new.self in
    part_stopped plan told me c.args.work.peer (Unit {0}) (Unit {0}) c.in-Err.stop c.hear_held.new.receiver left
    (hears_at plan told me c.args.work.peer (receiver_of c.hearing.receiver) left (independent_seen c.hearing.self) calls)
    (hears_at plan told me c.args.work.peer (receiver_of c.args.receiver.now) c.args.octets.now (independent_seen c.args.self.now) (g.L.Link.calls c.args.link.now)) now after
    (c.hearing.invariant.step told (agrees_before told calls after c.hear_held.ensures.goes agrees))
    (subst (λ r. HearsTo plan told me c.args.work.peer r c.hear_held.new.receiver left now after
    (hears_at plan told me c.args.work.peer (receiver_of c.hearing.receiver) left (independent_seen c.hearing.self) calls)) c.in-Err.is
    (subst (λ (p : Plan). HearsTo p told me c.args.work.peer c.hear_held.result c.hear_held.new.receiver left now after
    (hears_at p told me c.args.work.peer (receiver_of c.hearing.receiver) left (independent_seen c.hearing.self) calls)) c.hearing.invariant.keeps.plan
    (subst (λ (m : EdgeId). HearsTo c.hearing.self.plan told m.0 c.args.work.peer c.hear_held.result c.hear_held.new.receiver left now after
    (hears_at c.hearing.self.plan told m.0 c.args.work.peer (receiver_of c.hearing.receiver) left (independent_seen c.hearing.self) calls)) c.hearing.invariant.keeps.me
    (c.hear_held.ensures.step told left agrees (octets_drop c.hearing.at c.args.octets.now octets)))))

pub returns-then-at-octets-clause-keeps : goal.returns-then-at-octets-clause-keeps
returns-then-at-octets-clause-keeps g c = keeps_both c.args.self.now c.hearing.self c.hear_held.new.self c.hearing.invariant.keeps c.hear_held.ensures.keeps

pub returns-then-at-octets-clause-goes : goal.returns-then-at-octets-clause-goes
returns-then-at-octets-clause-goes g c =
    goes_both (g.L.Link.calls c.args.link.now) (g.L.Link.calls c.hearing.link) (g.L.Link.calls c.hear_held.new.link) c.hearing.invariant.goes c.hear_held.ensures.goes

pub returns-then-at-octets-clause-step : goal.returns-then-at-octets-clause-step
returns-then-at-octets-clause-step g c = λ told agrees.
    let octets : AreOctets c.args.octets.now = λ i. omega (arith, c.type_inv.octets i) in
    let plan = c.args.self.now.plan in
    let me = c.args.self.now.me.0 in
    let calls = g.L.Link.calls c.hearing.link in
    let after = g.L.Link.calls c.hear_held.new.link in
    let left = drop c.hearing.at c.args.octets.now in
    let now = independent_seen c.hear_held.new.self in
    let end : c.hearing.at ≡ length c.args.octets.now = search (rules, arith) in
    all_heard plan told me c.args.work.peer c.hear_held.new.receiver c.args.octets.now c.hearing.at
    (hears_at plan told me c.args.work.peer (receiver_of c.args.receiver.now) c.args.octets.now (independent_seen c.args.self.now) (g.L.Link.calls c.args.link.now)) now after c.in-Ok.ensures.waits end
    (c.hearing.invariant.step told (agrees_before told calls after c.hear_held.ensures.goes agrees)
    ∙ subst (λ (p : Plan). hears_at p told me c.args.work.peer (receiver_of c.hearing.receiver) left (independent_seen c.hearing.self) calls
    ≡ hears_at p told me c.args.work.peer (receiver_of c.hear_held.new.receiver) left now after) c.hearing.invariant.keeps.plan
    (subst (λ (m : EdgeId). hears_at c.hearing.self.plan told m.0 c.args.work.peer (receiver_of c.hearing.receiver) left (independent_seen c.hearing.self) calls
    ≡ hears_at c.hearing.self.plan told m.0 c.args.work.peer (receiver_of c.hear_held.new.receiver) left now after) c.hearing.invariant.keeps.me
    (on_ok c.hearing.self.plan told c.hearing.self.me.0 c.args.work.peer c.hear_held.result c.in-Ok.field-0 c.hear_held.new.receiver left now after _ c.in-Ok.is
    (c.hear_held.ensures.step told left agrees (octets_drop c.hearing.at c.args.octets.now octets)))))

pub hearing-preserved : goal.hearing-preserved
hearing-preserved g c =
    let octets : AreOctets c.args.octets.now = λ i. omega (arith, c.type_inv.octets i) in
    let plan = c.args.self.now.plan in
    let me = c.args.self.now.me.0 in
    let calls = g.L.Link.calls c.hearing.link in
    let after = g.L.Link.calls c.hear_held.new.link in
    let left = drop c.hearing.at c.args.octets.now in
    record {
      keeps = keeps_both c.args.self.now c.hearing.self c.hear_held.new.self c.hearing.invariant.keeps c.hear_held.ensures.keeps;
      goes = goes_both (g.L.Link.calls c.args.link.now) calls after c.hearing.invariant.goes c.hear_held.ensures.goes;
      within = c.feed_from-at.ensures.within;
      heard = all_fed plan me c.args.work.peer c.args.receiver.now.held c.args.octets.now c.hearing.at c.feed_from-at.result c.hear_held.new.receiver c.feed_from-at.new.self
          (independent_seen c.args.self.now) (independent_seen c.hear_held.new.self) (octets_take c.feed_from-at.result left (octets_drop c.hearing.at c.args.octets.now octets)) c.feed_from-at.ensures.held
          (all_both plan me c.args.work.peer (c.args.receiver.now.held ++ take c.hearing.at c.args.octets.now) c.hearing.receiver.held c.hear_held.new.receiver.held (independent_seen c.args.self.now)
          (independent_seen c.hearing.self) (independent_seen c.hear_held.new.self) c.hearing.invariant.heard
          (subst (λ (p : Plan). HearsAll p me c.args.work.peer c.hearing.receiver.held c.hear_held.new.receiver.held (independent_seen c.hearing.self) (independent_seen c.hear_held.new.self))
          c.hearing.invariant.keeps.plan
          (subst (λ (m : EdgeId). HearsAll c.hearing.self.plan m.0 c.args.work.peer c.hearing.receiver.held c.hear_held.new.receiver.held (independent_seen c.hearing.self)
          (independent_seen c.hear_held.new.self)) c.hearing.invariant.keeps.me c.in-Ok.ensures.all)));
      step = λ told agrees.
          c.hearing.invariant.step told (agrees_before told calls after c.hear_held.ensures.goes agrees)
          ∙ (subst (λ (p : Plan). hears_at p told me c.args.work.peer (receiver_of c.hearing.receiver) left (independent_seen c.hearing.self) calls
          ≡ hears_at p told me c.args.work.peer (receiver_of c.hear_held.new.receiver) left (independent_seen c.hear_held.new.self) after) c.hearing.invariant.keeps.plan
          (subst (λ (m : EdgeId). hears_at c.hearing.self.plan told m.0 c.args.work.peer (receiver_of c.hearing.receiver) left (independent_seen c.hearing.self) calls
          ≡ hears_at c.hearing.self.plan told m.0 c.args.work.peer (receiver_of c.hear_held.new.receiver) left (independent_seen c.hear_held.new.self) after) c.hearing.invariant.keeps.me
          (on_ok c.hearing.self.plan told c.hearing.self.me.0 c.args.work.peer c.hear_held.result c.in-Ok.field-0 c.hear_held.new.receiver left
          (independent_seen c.hear_held.new.self) after _ c.in-Ok.is (c.hear_held.ensures.step told left agrees (octets_drop c.hearing.at c.args.octets.now octets))))
          ∙ fed_at plan told me c.args.work.peer c.hear_held.new.receiver c.feed_from-at.new.self c.args.octets.now c.hearing.at c.feed_from-at.result
          (independent_seen c.hear_held.new.self) after c.in-Ok.ensures.waits c.feed_from-at.ensures.held);
    }

pub returns-in-Err-clause-some : goal.returns-in-Err-clause-some
returns-in-Err-clause-some g c =
    let octets : AreOctets c.args.octets.now = λ i. omega (arith, c.type_inv.octets i) in
    let plan = c.args.self.now.plan in
    let me = c.args.self.now.me.0 in
    some_fed plan me c.args.work.peer c.args.receiver.now.held c.args.octets.now c.hearing.at (independent_seen c.args.self.now) (independent_seen c.hear_held.new.self)
    (octets_drop c.hearing.at c.args.octets.now octets)
    (some_both plan me c.args.work.peer (c.args.receiver.now.held ++ take c.hearing.at c.args.octets.now) c.hearing.receiver.held (independent_seen c.args.self.now) (independent_seen c.hearing.self)
    (independent_seen c.hear_held.new.self) c.hearing.invariant.heard
    (subst (λ (p : Plan). HearsSome p me c.args.work.peer c.hearing.receiver.held (independent_seen c.hearing.self) (independent_seen c.hear_held.new.self)) c.hearing.invariant.keeps.plan
    (subst (λ (m : EdgeId). HearsSome c.hearing.self.plan m.0 c.args.work.peer c.hearing.receiver.held (independent_seen c.hearing.self) (independent_seen c.hear_held.new.self))
    c.hearing.invariant.keeps.me c.hear_held.ensures.some)))

pub returns-then-at-octets-clause-some : goal.returns-then-at-octets-clause-some
returns-then-at-octets-clause-some g c =
    let octets : AreOctets c.args.octets.now = λ i. omega (arith, c.type_inv.octets i) in
    let plan = c.args.self.now.plan in
    let me = c.args.self.now.me.0 in
    some_fed plan me c.args.work.peer c.args.receiver.now.held c.args.octets.now c.hearing.at (independent_seen c.args.self.now) (independent_seen c.hear_held.new.self)
    (octets_drop c.hearing.at c.args.octets.now octets)
    (some_both plan me c.args.work.peer (c.args.receiver.now.held ++ take c.hearing.at c.args.octets.now) c.hearing.receiver.held (independent_seen c.args.self.now) (independent_seen c.hearing.self)
    (independent_seen c.hear_held.new.self) c.hearing.invariant.heard
    (subst (λ (p : Plan). HearsSome p me c.args.work.peer c.hearing.receiver.held (independent_seen c.hearing.self) (independent_seen c.hear_held.new.self)) c.hearing.invariant.keeps.plan
    (subst (λ (m : EdgeId). HearsSome c.hearing.self.plan m.0 c.args.work.peer c.hearing.receiver.held (independent_seen c.hearing.self) (independent_seen c.hear_held.new.self))
    c.hearing.invariant.keeps.me c.hear_held.ensures.some)))
