-- What is held and what is left are heard as all: at each piece, where the session has ended, and where nothing is left and the rest is
-- held. As long as the session stands there is room for a piece more.
use Rattle.std.proofs.Common.{◌∙◌, ◌+◌, ◌++◌, [], List, ℕ, drop, ap, sym, arith}
use Rattle.net_values.specs.Octets.{AreOctets}
use Rattle.ldp_grammar.proofs.OctetLemmas.{octets_drop}
use Rattle.peer_dialogue.proofs.HearLemmas.{drop_end, fed_on, on_both, on_same}
use Rattle.peer_dialogue.proofs.SpeakerLemmas.{agrees_before}
use Rattle.provider_edge.proofs.AtWorkLemmas.{works_and, works_both}
use Rattle.provider_edge.proofs.MessageLemmas.{all_ended, all_held, on_plan, room_for}
use Rattle.provider_edge.specs.AtWork.{at_work}
use Rattle.provider_edge.proofs.edge.Edge.hear.Goals as goal

pub returns-then-not-has_end-clause-step : goal.returns-then-not-has_end-clause-step
returns-then-not-has_end-clause-step g c = λ told agrees.
    let octets : AreOctets c.args.octets.now = λ i. omega (arith, c.type_inv.octets i) in
    all_ended c.hear_held.new.self c.args.self.now.plan told c.args.peer (c.args.held ++ c.args.octets.now) (c.hear_held.new.held ++ drop c.hearing.at c.args.octets.now) _
    (g.L.Link.calls c.hear_held.new.work.link.now) c.hear_held.new.work.effects.now.list
    (sym c.has_end.ensures ∙ c.if-not-has_end.true)
    (on_both c.args.self.now.plan told c.args.peer _ (c.hearing.held ++ drop c.hearing.at c.args.octets.now) _ _ (at_work g.L.Link.calls c.hearing.self c.hearing.work) _
    (c.hearing.invariant.step told (agrees_before told _ _ c.in_ok-hear_held.ensures.goes.on.calls agrees))
    (on_plan c.args.self.now.plan c.hearing.self.plan told c.args.peer _ _ _ _ c.hearing.invariant.goes.keeps.plan
    (c.in_ok-hear_held.ensures.step told (drop c.hearing.at c.args.octets.now) agrees (octets_drop c.hearing.at c.args.octets.now octets))))

pub returns-then-at-octets-clause-step : goal.returns-then-at-octets-clause-step
returns-then-at-octets-clause-step g c = λ told agrees.
    let octets : AreOctets c.args.octets.now = λ i. omega (arith, c.type_inv.octets i) in
    all_held c.hear_held.new.self c.args.self.now.plan told c.args.peer (c.args.held ++ c.args.octets.now) c.hear_held.new.held _
    (at_work g.L.Link.calls c.hold.new.self c.hear_held.new.work) (g.L.Link.calls c.hear_held.new.work.link.now) c.hear_held.new.work.effects.now.list
    (sym c.has_end.ensures ∙ c.if-not-has_end.false) c.in_ok-hear_held.ensures.waiting
    (on_both c.args.self.now.plan told c.args.peer _ (c.hearing.held ++ drop c.hearing.at c.args.octets.now) _ _ (at_work g.L.Link.calls c.hearing.self c.hearing.work) _
    (c.hearing.invariant.step told (agrees_before told _ _ c.in_ok-hear_held.ensures.goes.on.calls agrees))
    (on_same c.args.self.now.plan told c.args.peer _ (c.hear_held.new.held ++ drop c.hearing.at c.args.octets.now) (c.hear_held.new.held ++ []) _ _
    (ap (λ (l : List ℕ). c.hear_held.new.held ++ l) (drop_end c.hearing.at c.args.octets.now (omega (arith, c.if-at-octets.true))))
    (on_plan c.args.self.now.plan c.hearing.self.plan told c.args.peer _ _ _ _ c.hearing.invariant.goes.keeps.plan
    (c.in_ok-hear_held.ensures.step told (drop c.hearing.at c.args.octets.now) agrees (octets_drop c.hearing.at c.args.octets.now octets)))))
    (c.hold.ensures.step (g.L.Link.calls c.hear_held.new.work.link.now) c.hear_held.new.work.effects.now.list)

pub feed_from-requires-clause-room : goal.feed_from-requires-clause-room
feed_from-requires-clause-room g c = room_for c.hear_held.new.self c.args.peer c.hear_held.new.held c.has_end.result c.has_end.ensures c.if-not-has_end.false c.in_ok-hear_held.ensures.waiting

pub hold-requires-clause-few : goal.hold-requires-clause-few
hold-requires-clause-few g c = room_for c.hear_held.new.self c.args.peer c.hear_held.new.held c.has_end.result c.has_end.ensures c.if-not-has_end.false c.in_ok-hear_held.ensures.waiting

pub hearing-preserved : goal.hearing-preserved
hearing-preserved g c = record {
  within = c.in_ok-at.ensures.within;
  goes = works_both g.L.Link.calls _ _ _ _ _ _ c.hearing.invariant.goes c.in_ok-hear_held.ensures.goes;
  step = λ told agrees.
      let octets : AreOctets c.args.octets.now = λ i. omega (arith, c.type_inv.octets i) in
      on_same c.args.self.now.plan told c.args.peer _ (c.hear_held.new.held ++ drop c.hearing.at c.args.octets.now)
      (c.feed_from.new.self ++ drop (c.hearing.at + c.in_ok-at.field-0) c.args.octets.now) _ _
      (fed_on c.hear_held.new.held c.feed_from.new.self c.args.octets.now c.hearing.at c.in_ok-at.field-0 c.in_ok-at.ensures.held)
      (on_both c.args.self.now.plan told c.args.peer _ (c.hearing.held ++ drop c.hearing.at c.args.octets.now) _ _ (at_work g.L.Link.calls c.hearing.self c.hearing.work) _
      (c.hearing.invariant.step told (agrees_before told _ _ c.in_ok-hear_held.ensures.goes.on.calls agrees))
      (on_plan c.args.self.now.plan c.hearing.self.plan told c.args.peer _ _ _ _ c.hearing.invariant.goes.keeps.plan
      (c.in_ok-hear_held.ensures.step told (drop c.hearing.at c.args.octets.now) agrees (octets_drop c.hearing.at c.args.octets.now octets))));
}

pub returns-in_err-hear_held-clause-goes : goal.returns-in_err-hear_held-clause-goes
returns-in_err-hear_held-clause-goes g c = works_both g.L.Link.calls _ _ _ _ _ _ c.hearing.invariant.goes c.hear_held.ensures.goes

pub returns-then-not-has_end-clause-goes : goal.returns-then-not-has_end-clause-goes
returns-then-not-has_end-clause-goes g c = works_both g.L.Link.calls _ _ _ _ _ _ c.hearing.invariant.goes c.in_ok-hear_held.ensures.goes

pub returns-then-at-octets-clause-goes : goal.returns-then-at-octets-clause-goes
returns-then-at-octets-clause-goes g c = works_and g.L.Link.calls _ _ _ _ _ (works_both g.L.Link.calls _ _ _ _ _ _ c.hearing.invariant.goes c.in_ok-hear_held.ensures.goes) c.hold.ensures.keeps

pub returns-in_err-at-clause-goes : goal.returns-in_err-at-clause-goes
returns-in_err-at-clause-goes g c = works_both g.L.Link.calls _ _ _ _ _ _ c.hearing.invariant.goes c.in_ok-hear_held.ensures.goes
