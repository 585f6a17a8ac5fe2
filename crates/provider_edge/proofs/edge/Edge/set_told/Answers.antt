-- What is told of the wire can unsettle its own ends alone, and these have marks.
use Rattle.std.proofs.Common.{◌≡◌, ◌<◌, ◌∙◌, ap, length, refl, subst, sym}
use Rattle.std.specs.Prelude.{IfSome}
use Rattle.net_base.specs.declared.plan.Plan.{Plan}
use Rattle.edge_model.specs.State.{with_told_down}
use Rattle.provider_edge.specs.contracts.edge.Edge.{the_view}
use Rattle.provider_edge.proofs.ForwardLemmas.{holds_marked, seen_kept}
use Rattle.provider_edge.proofs.MarkedLemmas.{besides_kept}
use Rattle.provider_edge.proofs.SettledLemmas.{IsBesides, besides_told}
use Rattle.provider_edge.specs.Lists.{EdgeLists, seen}
use Rattle.provider_edge.specs.Tidy.{IsTidyBesides}
use Rattle.provider_edge.proofs.edge.Edge.set_told.Goals as goal
use Rattle.provider_edge.proofs.EdgeLemmas.{seen_marks}

pub tell-requires : goal.tell-requires
tell-requires c = subst (λ (p : Plan). c.args.wire.0 < length p.wires) (sym c.self.invariant.plan)
    (subst (λ (n : EdgeLists). c.args.wire.0 < length n.plan.wires) (sym c.self.view_is) c.requires.within)

pub invariant_of-self : goal.invariant_of-self
invariant_of-self c =
    let v : EdgeLists = the_view c.self.inside in
    let step = seen_kept (with_told_down c.args.wire c.args.down) v c.tell.new.self c.self.invariant c.tell.ensures.keeps c.tell.ensures.step in
    holds_marked v c.tell.new.self c.marks_at-marks.result c.tell.ensures.keeps (ap (λ (e : EdgeLists). e.stopped) c.self.view_is ∙ c.requires.working)
    (besides_kept v (record v { forwarding = c.tell.new.self }) c.args.wire.0 c.marks_at-marks.result (record { plan = refl; me = refl; places = refl; count = refl; stopped = refl })
    (subst (λ (e : EdgeLists). IfSome c.marks_at-marks.result (IsTidyBesides e.plan (seen e) c.args.wire.0)) (sym c.self.view_is) c.marks_at-marks.ensures)
    (subst (IsBesides c.args.wire.0 (seen v)) (sym step) (besides_told c.args.wire c.args.down (seen v)))) c.self.invariant

pub returns-clause-step : goal.returns-clause-step
returns-clause-step c =
    let v : EdgeLists = the_view c.self.inside in
    subst (λ (n : EdgeLists). seen (record v { forwarding = c.tell.new.self; marks = c.marks_at-marks.result }) ≡ with_told_down c.args.wire c.args.down (seen n)) c.self.view_is
    (seen_marks (record v { forwarding = c.tell.new.self }) c.marks_at-marks.result
    ∙ seen_kept (with_told_down c.args.wire c.args.down) v c.tell.new.self c.self.invariant c.tell.ensures.keeps c.tell.ensures.step)
