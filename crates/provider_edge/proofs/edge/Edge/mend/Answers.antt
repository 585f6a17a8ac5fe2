-- A tidy edge has nothing to mend. Else one more round follows where the link did not take a message; behind a round in which it took each
-- nothing is left to mend.
use Rattle.std.proofs.Common.{◌≡◌, ◌+◌, ◌∙◌, List, suc, length, ap, subst, sym, arith}
use Rattle.net_base.specs.declared.outside.link_call.LinkCall.{LinkCall}
use Rattle.net_base.specs.declared.plan.Plan.{Plan}
use Rattle.net_base.specs.plan.Accepted.{IsChecked}
use Rattle.edge_model.specs.State.{EdgeState}
use Rattle.peer_dialogue.proofs.SpeakerLemmas.{agrees_before}
use Rattle.provider_edge.proofs.AtWorkLemmas.{works_and, works_both}
use Rattle.peer_dialogue.specs.Peering.{at_edge}
use Rattle.provider_edge.proofs.EffectLemmas.{agrees_itself, told_by}
use Rattle.provider_edge.proofs.MendLemmas.{round_again, round_done, rounds_end}
use Rattle.provider_edge.proofs.SettledLemmas.{tidy_mended}
use Rattle.provider_edge.proofs.TidyLemmas.{round_nothing}
use Rattle.provider_edge.specs.AtWork.{at_work}
use Rattle.provider_edge.specs.Lists.{EdgeLists, seen}
use Rattle.provider_edge.specs.Tidy.{IsTidy}
use Rattle.provider_edge.proofs.edge.Edge.mend.Goals as goal

pub loop-round-preserved : goal.loop-round-preserved
loop-round-preserved g c = record {
  goes = works_both g.L.Link.calls _ _ _ _ _ _ c.loop-round.invariant.goes c.in_ok-mend_once.ensures.goes;
  step = λ told agrees.
      round_again c.args.self.now c.loop-round.self told (c.len-rounds.result + 1) c.loop-round._round _ _ _ c.in_ok-mend_once.field-0 c.loop-round.invariant.goes.keeps
      (omega (arith, c.loop-round-test.true))
      (c.loop-round.invariant.step told (agrees_before told _ _ c.in_ok-mend_once.ensures.goes.on.calls agrees)) (c.in_ok-mend_once.ensures.step told agrees) c.if-not-branch.false;
}

pub returns-then-not-branch-clause-step : goal.returns-then-not-branch-clause-step
returns-then-not-branch-clause-step g c = λ told agrees.
    let plan : c.deref.result.now ≡ c.args.self.now.plan = c.deref.ensures ∙ ap (λ (e : EdgeLists). e.plan) c.self.view_is in
    let rounds : (c.len-rounds.result + 1) ≡ suc (length c.args.self.now.plan.edges) = omega (arith, c.len-rounds.ensures, ap (λ (p : Plan). length p.edges) plan) in
    ap (λ (e : EdgeState). at_edge e (g.L.Link.calls c.mend_once.new.work.link.now) c.mend_once.new.work.effects.now.list) c.keep_marks.ensures.step
    ∙ round_done c.args.self.now c.loop-round.self told (c.len-rounds.result + 1) c.loop-round._round _ _ _ c.in_ok-mend_once.field-0 c.loop-round.invariant.goes.keeps rounds
    (omega (arith, c.loop-round-test.true))
    (c.loop-round.invariant.step told (agrees_before told _ _ c.in_ok-mend_once.ensures.goes.on.calls agrees)) (c.in_ok-mend_once.ensures.step told agrees) c.if-not-branch.true

pub returns-clause-step : goal.returns-clause-step
returns-clause-step g c = λ told agrees.
    let plan : c.deref.result.now ≡ c.args.self.now.plan = c.deref.ensures ∙ ap (λ (e : EdgeLists). e.plan) c.self.view_is in
    let rounds : (c.len-rounds.result + 1) ≡ suc (length c.args.self.now.plan.edges) = omega (arith, c.len-rounds.ensures, ap (λ (p : Plan). length p.edges) plan) in
    rounds_end c.args.self.now told (c.len-rounds.result + 1) c.loop-round._round _ _ rounds (omega (arith, c.loop-round-test.false)) (c.loop-round.invariant.step told agrees)

pub returns-in_err-mend_once-clause-goes : goal.returns-in_err-mend_once-clause-goes
returns-in_err-mend_once-clause-goes g c = works_both g.L.Link.calls _ _ _ _ _ _ c.loop-round.invariant.goes c.mend_once.ensures.goes

pub returns-then-not-branch-clause-goes : goal.returns-then-not-branch-clause-goes
returns-then-not-branch-clause-goes g c = works_both g.L.Link.calls _ _ _ _ _ _ c.loop-round.invariant.goes
    (works_and g.L.Link.calls _ _ _ _ _ c.in_ok-mend_once.ensures.goes c.keep_marks.ensures.keeps)

pub keep_marks-requires-clause-tidy : goal.keep_marks-requires-clause-tidy
keep_marks-requires-clause-tidy g c =
    let calls : List LinkCall = g.L.Link.calls c.mend_once.new.work.link.now in
    subst (λ (p : Plan). IsTidy p (seen c.mend_once.new.self) c.none.result) (sym c.in_ok-mend_once.ensures.goes.keeps.plan)
    (tidy_mended c.loop-round.self.plan (seen c.mend_once.new.self) c.none.result
    (round_nothing c.loop-round.self.plan (told_by calls) (seen c.mend_once.new.self) calls c.mend_once.new.work.effects.now.list
    (at_work g.L.Link.calls c.loop-round.self c.loop-round.work) c.in_ok-mend_once.field-0
    (subst IsChecked (sym c.loop-round.invariant.goes.keeps.plan) (subst (λ (n : EdgeLists). IsChecked n.plan) c.self.view_is c.self.invariant.checked))
    (c.in_ok-mend_once.ensures.step (told_by calls) (agrees_itself calls)) c.if-not-branch.true))

pub returns-then-is_tidy-clause-step : goal.returns-then-is_tidy-clause-step
returns-then-is_tidy-clause-step g c = λ told agrees. sym (c.is_tidy.ensures c.if-is_tidy.true told (g.L.Link.calls c.args.work.now.link.now) c.args.work.now.effects.now.list)
