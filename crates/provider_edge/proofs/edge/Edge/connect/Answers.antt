-- The connection is put and told, and then its session begins, as in the definition. Where none stood, one whose session is not up yet
-- unsettles no end.
use Rattle.std.proofs.Common.{◌∙◌, Option, Some, ap, refl, subst, sym}
use Rattle.net_base.specs.declared.plan.Plan.{Plan}
use Rattle.std.specs.Prelude.{IfSome}
use Rattle.peer_dialogue.specs.Peering.{connection_with}
use Rattle.edge_model.specs.State.{Peering, with_peering}
use Rattle.peer_dialogue.proofs.SettleLemmas.{map_on}
use Rattle.provider_edge.proofs.LiftLemmas.{connected_at}
use Rattle.provider_edge.specs.AtWork.{at_work}
use Rattle.provider_edge.proofs.TidyLemmas.{tidy_begun}
use Rattle.provider_edge.specs.contracts.edge.Edge.{the_view}
use Rattle.provider_edge.specs.Lists.{EdgeLists, seen}
use Rattle.provider_edge.specs.Tidy.{IsTidy}
use Rattle.provider_edge.specs.declared.end_marks.EndMarks.{EndMarks}
use Rattle.provider_edge.proofs.edge.Edge.connect.Goals.{else-absent, then-absent}
use Rattle.provider_edge.proofs.edge.Edge.connect.Goals as goal

pub returns-clause-step : goal.returns-clause-step
returns-clause-step g c = map_on _ _ c.happens.result
    (λ begins told agrees.
    connected_at told c.args.peer (connection_with c.args.peers) (seen c.args.self.now) (seen c.keep_marks.new.self)
    (g.L.Link.calls c.args.work.now.link.now) c.args.work.now.effects.now.list c.push.new.self (at_work g.L.Link.calls c.happens.new.self c.happens.new.work)
    (c.keep_marks.ensures.step ∙ c.put_peering.ensures.step ∙ ap (λ (d : Peering). with_peering c.args.peer (Some d) (seen c.meet.new.self)) c.open.ensures
    ∙ ap (with_peering c.args.peer (Some (connection_with c.args.peers))) c.meet.ensures.step)
    c.in_ok-push.ensures.ok (begins told agrees))
    c.happens.ensures.step

pub keep_marks-requires-clause-tidy : goal.keep_marks-requires-clause-tidy
keep_marks-requires-clause-tidy g c =
    let v : EdgeLists = the_view c.self.inside in
    elim c.if-absent.branch [
      | then-absent w ↦
          subst (λ (m : Option EndMarks). IfSome m (IsTidy c.put_peering.new.self.plan (seen c.put_peering.new.self))) (sym w.marks-is)
          (subst (λ (p : Plan). IfSome v.marks (IsTidy p (seen c.put_peering.new.self))) (sym c.put_peering.ensures.keeps.plan)
          (tidy_begun c.meet.new.self.plan c.args.peer (connection_with c.args.peers) (seen c.meet.new.self) (seen c.put_peering.new.self) v.marks
          (subst (λ (n : EdgeLists). IfSome v.marks (IsTidy n.plan (seen n))) c.self.view_is c.self.invariant.tidy)
          (sym w.if-absent.ensures) refl (c.put_peering.ensures.step ∙ ap (λ (d : Peering). with_peering c.args.peer (Some d) (seen c.meet.new.self)) c.open.ensures)))
      | else-absent w ↦ subst (λ (m : Option EndMarks). IfSome m (IsTidy c.put_peering.new.self.plan (seen c.put_peering.new.self))) (sym w.marks-is) tt
    ]
