-- Without a session the loss is idle. Else the session is closed, the ends beside the peer are cleared and have marks, and the ends are
-- mended.
use Rattle.std.proofs.Common.{◌≡◌, ◌∙◌, Some, ap, sym, subst, true, refl}
use Rattle.net_base.specs.declared.trace.state_name.Reason.TheVariants as reason
use Rattle.session_core.specs.Table.{Closed}
use Rattle.edge_model.specs.declared.effects.Effects.{Effects}
use Rattle.edge_model.specs.Connection.{lost_input}
use Rattle.edge_model.specs.Session.{happens, happens_with_ends}
use Rattle.edge_model.specs.State.{EdgeState, is_there}
use Rattle.edge_model.specs.Work.{beginning}
use Rattle.peer_dialogue.specs.Peering.{at_edge}
use Rattle.peer_dialogue.proofs.SettleLemmas.{map_on}
use Rattle.provider_edge.proofs.EdgeLemmas.{begun, lost_done, mended}
use Rattle.peer_dialogue.proofs.SpeakerLemmas.{goes_nowhere}
use Rattle.provider_edge.proofs.LiftLemmas.{happened, left_none, lost_none}
use Rattle.provider_edge.specs.contracts.edge.Edge.{the_view}
use Rattle.provider_edge.proofs.ListLemmas.{keeps_both}
use Rattle.provider_edge.proofs.MarkedLemmas.{gone_kept}
use Rattle.provider_edge.specs.Lists.{Keeps, seen, worked}
use Rattle.peer_dialogue.proofs.AtWorkLemmas.{work_both}
use Rattle.provider_edge.proofs.AtWorkLemmas.{takes_by}
use Rattle.provider_edge.specs.AtWork.{at_work}
use Rattle.provider_edge.proofs.edge.Edge.lost.Goals as goal

pub returns-in_default-clause-step : goal.returns-in_default-clause-step
returns-in_default-clause-step g c = λ told agrees.
    subst (λ (e : Effects). worked c.take_peering.new.self (g.L.Link.calls c.args.work.now.link.now) (record e { idle = true })
    ≡ lost_input c.args.self.now.plan told c.args.peer (beginning (seen c.args.self.now) (g.L.Link.calls c.args.work.now.link.now))) (sym c.requires.fresh)
    (lost_none c.args.self.now c.take_peering.new.self told c.args.peer c.take_peering.result
    (g.L.Link.calls c.args.work.now.link.now) c.take_peering.ensures.taken c.in_default.is c.take_peering.ensures.step)

pub returns-clause-step : goal.returns-clause-step
returns-clause-step g c = map_on _ _ c.mend.result
    (λ step told agrees.
    lost_done c.args.self.now told c.args.peer (g.L.Link.calls c.args.work.now.link.now) _ (ap is_there (sym c.take_peering.ensures.taken ∙ c.in-Some.is))
    (mended c.args.self.now c.keep_marks.new.self c.mend.new.self told (g.L.Link.calls c.lose.new.work.link.now)
    (g.L.Link.calls c.mend.new.work.link.now) c.lose.new.work.effects.now.list c.mend.new.work.effects.now
    (happens_with_ends told c.args.peer (Closed reason.Closed) (beginning (seen c.args.self.now) (g.L.Link.calls c.args.work.now.link.now)))
    (c.mend.ensures.goes.on.idle ∙ (c.in_ok-lose.ensures.goes.idle ∙ ap (λ (e : Effects). e.idle) c.requires.fresh))
    (keeps_both _ _ _ c.take_peering.ensures.keeps (keeps_both _ _ _ c.clear_ends.ensures.keeps c.keep_marks.ensures.keeps))
    (subst (λ (e : Effects). at_work g.L.Link.calls c.keep_marks.new.self c.lose.new.work
    ≡ happens_with_ends told c.args.peer (Closed reason.Closed) (at_edge (seen c.args.self.now) (g.L.Link.calls c.args.work.now.link.now) e.list)) c.requires.fresh
    (ap (λ (e : EdgeState). at_edge e (g.L.Link.calls c.lose.new.work.link.now) c.lose.new.work.effects.now.list) c.keep_marks.ensures.step
    ∙ happened told c.args.peer (Closed reason.Closed) (at_work g.L.Link.calls c.args.self.now c.args.work.now) (at_work g.L.Link.calls c.take_peering.new.self c.lose.new.work)
    (at_work g.L.Link.calls c.clear_ends.new.self c.lose.new.work)
    (left_none (happens told c.args.peer (Closed reason.Closed)) c.args.peer c.take_peering.result (Some c.in-Some.peering)
    (seen c.args.self.now) (seen c.take_peering.new.self) (g.L.Link.calls c.args.work.now.link.now)
    (g.L.Link.calls c.lose.new.work.link.now) c.args.work.now.effects.now.list c.lose.new.work.effects.now.list
    c.take_peering.ensures.taken c.in-Some.is c.take_peering.ensures.step (c.in_ok-lose.ensures.step told (seen c.args.self.now)))
    (c.clear_ends.ensures.step (g.L.Link.calls c.lose.new.work.link.now) c.lose.new.work.effects.now.list))
    ∙ ap (happens_with_ends told c.args.peer (Closed reason.Closed)) (begun (seen c.args.self.now) (g.L.Link.calls c.args.work.now.link.now)))
    (step told agrees)))
    c.mend.ensures.step

pub returns-in_default-clause-goes : goal.returns-in_default-clause-goes
returns-in_default-clause-goes g c = record { keeps = c.take_peering.ensures.keeps; link = refl; effects = refl; calls = goes_nowhere (g.L.Link.calls c.args.work.now.link.now) }

pub returns-clause-goes : goal.returns-clause-goes
returns-clause-goes g c = takes_by g.L.Link.calls _ _ _ _
    (keeps_both _ _ _ c.take_peering.ensures.keeps (keeps_both _ _ _ c.clear_ends.ensures.keeps (keeps_both _ _ _ c.keep_marks.ensures.keeps c.mend.ensures.goes.keeps)))
    (work_both g.L.Link.calls _ _ _ c.in_ok-lose.ensures.goes c.mend.ensures.goes.on)

pub returns-in_err-lose-clause-goes : goal.returns-in_err-lose-clause-goes
returns-in_err-lose-clause-goes g c = takes_by g.L.Link.calls _ _ _ _ c.take_peering.ensures.keeps c.lose.ensures.goes

pub keep_marks-requires-clause-tidy : goal.keep_marks-requires-clause-tidy
keep_marks-requires-clause-tidy g c =
    let keeps : Keeps c.args.self.now c.clear_ends.new.self = keeps_both _ _ _ c.take_peering.ensures.keeps c.clear_ends.ensures.keeps in
    gone_kept (the_view c.self.inside) c.args.self.now c.take_peering.new.self c.clear_ends.new.self c.clear_ends.new.self c.args.peer c.marks_beside-marks.result c.self.view_is c.self.invariant keeps keeps
    c.marks_beside-marks.ensures c.take_peering.ensures.step c.clear_ends.ensures.step
