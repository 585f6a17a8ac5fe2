-- Without a session nothing is heard. Else the edge acts where the session was up and still stands, and only there, and then mends its
-- ends.
use Rattle.std.proofs.Common.{◌≡◌, ◌∙◌, true, false, refl, sym}
use Rattle.pw_messages.specs.LinkAnswers.{Agrees, Answers}
use Rattle.edge_model.specs.Hear.{hears_one}
use Rattle.peer_dialogue.proofs.SettleLemmas.{map_on}
use Rattle.peer_dialogue.proofs.SpeakerLemmas.{agrees_before}
use Rattle.provider_edge.proofs.ActLemmas.{acts_not, acts_there}
use Rattle.provider_edge.proofs.AtWorkLemmas.{works_both}
use Rattle.provider_edge.proofs.MessageLemmas.{message_none, message_some, one_heard}
use Rattle.provider_edge.specs.AtWork.{Works, at_work}
use Rattle.provider_edge.specs.Lists.{seen}
use Rattle.provider_edge.proofs.edge.Edge.hear_message.Goals.{then-was_up+then-has_end+in_ok-act, else-was_up, else-was_up-via-then-was_up+else-has_end, else-was_up-via-else-was_up}
use Rattle.provider_edge.proofs.edge.Edge.hear_message.Goals as goal

pub returns-then-not-has_end-clause-step : goal.returns-then-not-has_end-clause-step
returns-then-not-has_end-clause-step g c = λ told agrees.
    message_none c.args.self.now.plan told c.args.peer c.args.message.now (seen c.args.self.now) (g.L.Link.calls c.args.work.now.link.now) c.args.work.now.effects.now.list
    (sym (c.has_end.ensures) ∙ c.if-not-has_end.true)

pub returns-clause-goes : goal.returns-clause-goes
returns-clause-goes g c =
    let did : Works g.L.Link.calls c.args.self.now c.args.work.now c.if-was_up.self c.if-was_up.work =
    elim c.if-was_up.branch [
      | then-was_up+then-has_end+in_ok-act w ↦ rw w.self-is (rw w.work-is (works_both g.L.Link.calls _ _ _ _ _ _ c.in_ok-happens.ensures.goes w.in_ok-act.ensures.goes))
      | else-was_up w ↦ rw w.self-is (rw w.work-is c.in_ok-happens.ensures.goes)
    ] in
    works_both g.L.Link.calls _ _ _ _ _ _ did c.mend.ensures.goes

pub returns-clause-step : goal.returns-clause-step
returns-clause-step g c =
    let did : Works g.L.Link.calls c.args.self.now c.args.work.now c.if-was_up.self c.if-was_up.work =
    elim c.if-was_up.branch [
      | then-was_up+then-has_end+in_ok-act w ↦ rw w.self-is (rw w.work-is (works_both g.L.Link.calls _ _ _ _ _ _ c.in_ok-happens.ensures.goes w.in_ok-act.ensures.goes))
      | else-was_up w ↦ rw w.self-is (rw w.work-is c.in_ok-happens.ensures.goes)
    ] in
    let heard : (told : Answers) → Agrees told (g.L.Link.calls c.if-was_up.work.link.now)
    → at_work g.L.Link.calls c.if-was_up.self c.if-was_up.work ≡ hears_one c.args.self.now.plan told c.args.peer c.args.message.now (at_work g.L.Link.calls c.args.self.now c.args.work.now) =
    elim c.if-was_up.branch [
      | then-was_up+then-has_end+in_ok-act w ↦ rw w.self-is (rw w.work-is (λ told agrees.
          one_heard c.args.self.now.plan c.happens.new.self.plan told c.args.peer c.args.message.now (seen c.args.self.now)
          (g.L.Link.calls c.args.work.now.link.now) c.args.work.now.effects.now.list true
          (at_work g.L.Link.calls c.happens.new.self c.happens.new.work) (at_work g.L.Link.calls w.act.new.self w.act.new.work)
          (sym w.if-was_up.true ∙ c.is_up-was_up.ensures) c.in_ok-happens.ensures.goes.keeps.plan
          (c.in_ok-happens.ensures.step told (agrees_before told _ _ w.in_ok-act.ensures.goes.on.calls agrees))
          (acts_there c.happens.new.self.plan told c.args.peer c.args.message.now (seen c.happens.new.self)
          (g.L.Link.calls c.happens.new.work.link.now) c.happens.new.work.effects.now.list _ (sym w.has_end-then-was_up.ensures ∙ w.if-has_end.true) (w.in_ok-act.ensures.step told agrees))))
      | else-was_up w ↦ rw w.self-is (rw w.work-is (λ told agrees. elim w.else-was_up.branch [
        | else-was_up-via-then-was_up+else-has_end v ↦
            one_heard c.args.self.now.plan c.happens.new.self.plan told c.args.peer c.args.message.now (seen c.args.self.now)
            (g.L.Link.calls c.args.work.now.link.now) c.args.work.now.effects.now.list true
            (at_work g.L.Link.calls c.happens.new.self c.happens.new.work) (at_work g.L.Link.calls c.happens.new.self c.happens.new.work)
            (sym v.if-was_up.true ∙ c.is_up-was_up.ensures) c.in_ok-happens.ensures.goes.keeps.plan
            (c.in_ok-happens.ensures.step told agrees)
            (acts_not c.happens.new.self.plan told c.args.peer c.args.message.now (seen c.happens.new.self)
            (g.L.Link.calls c.happens.new.work.link.now) c.happens.new.work.effects.now.list (sym v.has_end-then-was_up.ensures ∙ v.if-has_end.false))
        | else-was_up-via-else-was_up v ↦
            one_heard c.args.self.now.plan c.happens.new.self.plan told c.args.peer c.args.message.now (seen c.args.self.now)
            (g.L.Link.calls c.args.work.now.link.now) c.args.work.now.effects.now.list false
            (at_work g.L.Link.calls c.happens.new.self c.happens.new.work) (at_work g.L.Link.calls c.happens.new.self c.happens.new.work)
            (sym v.if-was_up.false ∙ c.is_up-was_up.ensures) c.in_ok-happens.ensures.goes.keeps.plan
            (c.in_ok-happens.ensures.step told agrees) refl
      ]))
    ] in
    map_on _ _ c.mend.result
    (λ mended told agrees.
    message_some c.args.self.now.plan c.if-was_up.self.plan told c.args.peer c.args.message.now (seen c.args.self.now) (g.L.Link.calls c.args.work.now.link.now) c.args.work.now.effects.now.list
    (at_work g.L.Link.calls c.if-was_up.self c.if-was_up.work) _
    (sym (c.has_end.ensures) ∙ c.if-not-has_end.false) did.keeps.plan
    (heard told (agrees_before told _ _ c.mend.ensures.goes.on.calls agrees)) (mended told agrees))
    c.mend.ensures.step
