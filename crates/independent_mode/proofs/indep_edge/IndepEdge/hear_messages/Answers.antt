-- One message more is heard, by the plan and at the place of the edge, which stay.
use Rattle.std.proofs.Common.{rules, ◌≡◌, ◌<◌, ◌≤◌, ◌+◌, ◌∙◌, arith, drop, length, refl, slice_index_or, subst}
use Rattle.net_base.specs.declared.plan.Plan.{Plan}
use Rattle.net_base.specs.declared.plan.places.EdgeId.{EdgeId}
use Rattle.ldp_grammar.specs.declared.message.Message.{Message}
use Rattle.independent_model.specs.Hear.{independent_hears_message, independent_hears_messages}
use Rattle.independent_model.specs.Work.{Comes, Goes, NeverRefused}
use Rattle.independent_mode.specs.Changed.{ChangesOnly, learns_message}
use Rattle.independent_mode.specs.Lists.{independent_seen}
use Rattle.independent_mode.proofs.ChangedLemmas.{all_heard_of, front_heard, one_more_heard, only_same}
use Rattle.independent_mode.proofs.HearLemmas.{messages_end, messages_more}
use Rattle.independent_mode.proofs.TellLemmas.{agrees_before, goes_both, goes_then, keeps_both, same_calls, stops_then}
use Rattle.independent_mode.proofs.indep_edge.IndepEdge.hear_messages.Goals as goal

pub loop-place-init : goal.loop-place-init
loop-place-init g c = record {
  keeps = record { plan = refl; me = refl };
  goes = same_calls (g.L.Link.calls c.args.link.now);
  step = λ told agrees. refl;
  changed = only_same c.args.work.peer.0 (independent_seen c.args.self.now);
}

pub returns-in-Err-clause-speaks : goal.returns-in-Err-clause-speaks
returns-in-Err-clause-speaks g c =
    let plan = c.args.self.now.plan in
    let me = c.args.self.now.me.0 in
    let message : Message = c.index-messages-place.result in
    let calls = g.L.Link.calls c.loop-place.link in
    let after = g.L.Link.calls c.hear_message.new.link in
    let now = independent_seen c.hear_message.new.self in
    let within : c.loop-place.place < length c.args.messages.now = search rules in
    let at : message ≡ slice_index_or c.args.messages.now c.loop-place.place message = search rules in
    record {
      keeps = keeps_both c.args.self.now c.loop-place.self c.hear_message.new.self c.loop-place.invariant.keeps c.hear_message.ensures.speaks.keeps;
      goes = goes_both (g.L.Link.calls c.args.link.now) calls after c.loop-place.invariant.goes c.hear_message.ensures.speaks.goes;
      never = subst (λ r. NeverRefused r) c.in-Err.is c.hear_message.ensures.speaks.never;
      step = λ told agrees.
          stops_then (Unit {0}) (Unit {0}) c.in-Err.stop now after (independent_hears_message plan told me c.args.work.peer message (independent_seen c.loop-place.self) calls)
          (independent_hears_messages plan told me c.args.work.peer c.args.messages.now (independent_seen c.args.self.now) (g.L.Link.calls c.args.link.now))
          (λ e k. independent_hears_messages plan told me c.args.work.peer (drop (c.loop-place.place + 1) c.args.messages.now) e k)
          (c.loop-place.invariant.step told (agrees_before told calls after c.hear_message.ensures.speaks.goes agrees)
          ∙ messages_more plan told me c.args.work.peer c.args.messages.now c.loop-place.place message (independent_seen c.loop-place.self) calls within at)
          (subst (λ r. Comes r now after (independent_hears_message plan told me c.args.work.peer message (independent_seen c.loop-place.self) calls)) c.in-Err.is
          (subst (λ (p : Plan). Comes c.hear_message.result now after (independent_hears_message p told me c.args.work.peer message (independent_seen c.loop-place.self) calls))
          c.loop-place.invariant.keeps.plan
          (subst (λ (m : EdgeId). Comes c.hear_message.result now after
          (independent_hears_message c.loop-place.self.plan told m.0 c.args.work.peer message (independent_seen c.loop-place.self) calls)) c.loop-place.invariant.keeps.me
          (c.hear_message.ensures.speaks.step told agrees))));
    }

pub returns-clause-speaks : goal.returns-clause-speaks
returns-clause-speaks g c =
    let past : length c.args.messages.now ≤ c.loop-place.place = search (rules, arith) in
    record {
      keeps = c.loop-place.invariant.keeps;
      goes = c.loop-place.invariant.goes;
      never = tt;
      step = λ told agrees.
          c.loop-place.invariant.step told agrees
          ∙ messages_end c.args.self.now.plan told c.args.self.now.me.0 c.args.work.peer c.args.messages.now c.loop-place.place (independent_seen c.loop-place.self)
          (g.L.Link.calls c.loop-place.link) past;
    }

pub returns-clause-all : goal.returns-clause-all
returns-clause-all g c =
    let past : length c.args.messages.now ≤ c.loop-place.place = search (rules, arith) in
    all_heard_of c.args.self.now.plan c.args.self.now.me.0 c.args.work.peer c.args.messages.now c.loop-place.place (independent_seen c.args.self.now) (independent_seen c.loop-place.self) past
    c.loop-place.invariant.changed

pub returns-clause-front : goal.returns-clause-front
returns-clause-front g c =
    front_heard c.args.self.now.plan c.args.self.now.me.0 c.args.work.peer c.args.messages.now c.loop-place.place (independent_seen c.args.self.now) (independent_seen c.loop-place.self)
    c.loop-place.invariant.changed

pub returns-in-Err-clause-front : goal.returns-in-Err-clause-front
returns-in-Err-clause-front g c =
    let plan = c.args.self.now.plan in
    let me = c.args.self.now.me.0 in
    let message : Message = c.index-messages-place.result in
    let within : c.loop-place.place < length c.args.messages.now = search rules in
    let at : message ≡ slice_index_or c.args.messages.now c.loop-place.place message = search rules in
    front_heard plan me c.args.work.peer c.args.messages.now (c.loop-place.place + 1) (independent_seen c.args.self.now) (independent_seen c.hear_message.new.self)
    (one_more_heard plan me c.args.work.peer c.args.messages.now c.loop-place.place message (independent_seen c.args.self.now) (independent_seen c.loop-place.self)
    (independent_seen c.hear_message.new.self) within at c.loop-place.invariant.changed
    (subst (λ (p : Plan). ChangesOnly c.args.work.peer.0 (learns_message p me c.args.work.peer message (independent_seen c.loop-place.self)) (independent_seen c.hear_message.new.self))
    c.loop-place.invariant.keeps.plan
    (subst (λ (m : EdgeId). ChangesOnly c.args.work.peer.0 (learns_message c.loop-place.self.plan m.0 c.args.work.peer message (independent_seen c.loop-place.self)) (independent_seen c.hear_message.new.self))
    c.loop-place.invariant.keeps.me c.hear_message.ensures.changed)))

pub loop-place-preserved : goal.loop-place-preserved
loop-place-preserved g c =
    let plan = c.args.self.now.plan in
    let me = c.args.self.now.me.0 in
    let message : Message = c.index-messages-place.result in
    let calls = g.L.Link.calls c.loop-place.link in
    let after = g.L.Link.calls c.hear_message.new.link in
    let within : c.loop-place.place < length c.args.messages.now = search rules in
    let at : message ≡ slice_index_or c.args.messages.now c.loop-place.place message = search rules in
    record {
      keeps = keeps_both c.args.self.now c.loop-place.self c.hear_message.new.self c.loop-place.invariant.keeps c.hear_message.ensures.speaks.keeps;
      goes = goes_both (g.L.Link.calls c.args.link.now) calls after c.loop-place.invariant.goes c.hear_message.ensures.speaks.goes;
      step = λ told agrees.
          c.loop-place.invariant.step told (agrees_before told calls after c.hear_message.ensures.speaks.goes agrees)
          ∙ goes_then (independent_hears_message plan told me c.args.work.peer message (independent_seen c.loop-place.self) calls)
          (independent_hears_messages plan told me c.args.work.peer (drop c.loop-place.place c.args.messages.now) (independent_seen c.loop-place.self) calls)
          (independent_seen c.hear_message.new.self) after
          (λ e k. independent_hears_messages plan told me c.args.work.peer (drop (c.loop-place.place + 1) c.args.messages.now) e k)
          (messages_more plan told me c.args.work.peer c.args.messages.now c.loop-place.place message (independent_seen c.loop-place.self) calls within at)
          (subst (λ (p : Plan). independent_hears_message p told me c.args.work.peer message (independent_seen c.loop-place.self) calls ≡ Goes (independent_seen c.hear_message.new.self) after)
          c.loop-place.invariant.keeps.plan
          (subst (λ (m : EdgeId). independent_hears_message c.loop-place.self.plan told m.0 c.args.work.peer message (independent_seen c.loop-place.self) calls
          ≡ Goes (independent_seen c.hear_message.new.self) after) c.loop-place.invariant.keeps.me (c.in-Ok.ensures.speaks.step told agrees)));
      changed = one_more_heard plan me c.args.work.peer c.args.messages.now c.loop-place.place message (independent_seen c.args.self.now) (independent_seen c.loop-place.self)
          (independent_seen c.hear_message.new.self) within at c.loop-place.invariant.changed
          (subst (λ (p : Plan). ChangesOnly c.args.work.peer.0 (learns_message p me c.args.work.peer message (independent_seen c.loop-place.self)) (independent_seen c.hear_message.new.self))
          c.loop-place.invariant.keeps.plan
          (subst (λ (m : EdgeId). ChangesOnly c.args.work.peer.0 (learns_message c.loop-place.self.plan m.0 c.args.work.peer message (independent_seen c.loop-place.self))
          (independent_seen c.hear_message.new.self)) c.loop-place.invariant.keeps.me c.hear_message.ensures.changed));
    }
