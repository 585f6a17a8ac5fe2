-- The work is the step of the definition. By this step the effects tell what the links took, fit the plan and stay local, and the edge is
-- in sync again.
use Rattle.std.proofs.Common.{rules, ◌≡◌, ◌∙◌, List, true, false, ap, sym, subst}
use Rattle.net_base.specs.declared.outside.link_call.LinkCall.{LinkCall}
use Rattle.net_base.specs.declared.plan.Plan.{Plan}
use Rattle.pw_messages.specs.LinkAnswers.{Agrees, Answers}
use Rattle.edge_model.specs.declared.effects.Effects.{Effects}
use Rattle.edge_model.specs.State.{EdgeState}
use Rattle.edge_model.specs.Step.{edge_step}
use Rattle.edge_model.specs.Synced.{InSync}
use Rattle.edge_model.specs.Work.{beginning}
use Rattle.provider_edge.specs.contracts.edge.Edge.{the_view}
use Rattle.provider_edge.proofs.EdgeLemmas.{edge_begins, edge_going, seen_stopped, worked_stopped}
use Rattle.provider_edge.proofs.EffectLemmas.{Steps, steps_fit, steps_synced, steps_tell}
use Rattle.provider_edge.proofs.StayLemmas.{steps_local}
use Rattle.provider_edge.specs.Bounds.{IsBounded}
use Rattle.provider_edge.specs.Lists.{EdgeLists, seen, worked}
use Rattle.provider_edge.specs.Said.{AllFit, TellsTaken}
use Rattle.provider_edge.specs.Taking.{StaysLocal}
use Rattle.provider_edge.proofs.edge.Edge.take.Goals as goal

pub work-requires-clause-synced : goal.work-requires-clause-synced
work-requires-clause-synced g c =
    let v : EdgeLists = the_view c.self.inside in
    subst (InSync v.plan) (sym (seen_stopped v true)) (c.self.invariant.synced c.if-self.false)

pub invariant_of-self : goal.invariant_of-self
invariant_of-self g c = edge_begins (the_view c.self.inside) c.self.invariant

pub invariant_of-self-in-Ok : goal.invariant_of-self-in-Ok
invariant_of-self-in-Ok g c =
    let v : EdgeLists = the_view c.self.inside in
    let before : List LinkCall = g.L.Link.calls c.args.link.now in
    let after : List LinkCall = g.L.Link.calls c.work.new.work.link.now in
    let effects : Effects = c.work.new.work.effects.now in
    let steps : Steps v c.work.new.self c.args.input effects before after = λ told agrees.
    c.in-Ok.ensures.step told agrees ∙ ap (λ (s : EdgeState). edge_step v.plan told c.args.input (beginning s before)) (seen_stopped v true) in
    let done : InSync v.plan (seen c.work.new.self) = steps_synced v c.work.new.self c.args.input effects before after c.self.invariant (c.self.invariant.synced c.if-self.false) steps in
    edge_going (the_view c.self-2.inside) c.self-2.invariant
    (subst (λ (n : EdgeLists). InSync n.plan (seen n)) (sym c.self-2.view_is) (subst (λ (p : Plan). InSync p (seen c.work.new.self)) (sym c.work.ensures.goes.keeps.plan) done))

pub returns-in-Ok-clause-step : goal.returns-in-Ok-clause-step
returns-in-Ok-clause-step g c =
    let v : EdgeLists = the_view c.self.inside in
    let before : List LinkCall = g.L.Link.calls c.args.link.now in
    let after : List LinkCall = g.L.Link.calls c.work.new.work.link.now in
    let effects : Effects = c.work.new.work.effects.now in
    let steps : Steps v c.work.new.self c.args.input effects before after = λ told agrees.
    c.in-Ok.ensures.step told agrees ∙ ap (λ (s : EdgeState). edge_step v.plan told c.args.input (beginning s before)) (seen_stopped v true) in
    let now : EdgeLists = record (the_view c.self-2.inside) { stopped = false } in
    let whole : (told : Answers) → Agrees told after → worked now after effects ≡ edge_step c.args.self.now.plan told c.args.input (beginning (seen c.args.self.now) before) = λ told agrees.
    worked_stopped (the_view c.self-2.inside) false after effects
    ∙ (ap (λ (n : EdgeLists). worked n after effects) c.self-2.view_is
    ∙ (steps told agrees ∙ ap (λ (n : EdgeLists). edge_step n.plan told c.args.input (beginning (seen n) before)) c.self.view_is)) in
    search (rules, whole)

pub returns-in-Ok-clause-said : goal.returns-in-Ok-clause-said
returns-in-Ok-clause-said g c =
    let v : EdgeLists = the_view c.self.inside in
    let before : List LinkCall = g.L.Link.calls c.args.link.now in
    let after : List LinkCall = g.L.Link.calls c.work.new.work.link.now in
    let effects : Effects = c.work.new.work.effects.now in
    let steps : Steps v c.work.new.self c.args.input effects before after = λ told agrees.
    c.in-Ok.ensures.step told agrees ∙ ap (λ (s : EdgeState). edge_step v.plan told c.args.input (beginning s before)) (seen_stopped v true) in
    let tells : TellsTaken before after effects.list = steps_tell v c.work.new.self c.args.input effects before after c.self.invariant steps in
    search (rules, tells)

pub returns-in-Ok-clause-fit : goal.returns-in-Ok-clause-fit
returns-in-Ok-clause-fit g c =
    let v : EdgeLists = the_view c.self.inside in
    let before : List LinkCall = g.L.Link.calls c.args.link.now in
    let after : List LinkCall = g.L.Link.calls c.work.new.work.link.now in
    let effects : Effects = c.work.new.work.effects.now in
    let steps : Steps v c.work.new.self c.args.input effects before after = λ told agrees.
    c.in-Ok.ensures.step told agrees ∙ ap (λ (s : EdgeState). edge_step v.plan told c.args.input (beginning s before)) (seen_stopped v true) in
    let fits : AllFit c.args.self.now.plan effects.list =
    subst (λ (n : EdgeLists). AllFit n.plan effects.list) c.self.view_is (steps_fit v c.work.new.self c.args.input effects before after c.self.invariant steps) in
    search (rules, fits)

pub returns-in-Ok-clause-local : goal.returns-in-Ok-clause-local
returns-in-Ok-clause-local g c =
    let v : EdgeLists = the_view c.self.inside in
    let before : List LinkCall = g.L.Link.calls c.args.link.now in
    let after : List LinkCall = g.L.Link.calls c.work.new.work.link.now in
    let effects : Effects = c.work.new.work.effects.now in
    let steps : Steps v c.work.new.self c.args.input effects before after = λ told agrees.
    c.in-Ok.ensures.step told agrees ∙ ap (λ (s : EdgeState). edge_step v.plan told c.args.input (beginning s before)) (seen_stopped v true) in
    let stays : StaysLocal c.args.self.now.plan (seen c.args.self.now) c.args.input effects.list =
    subst (λ (n : EdgeLists). StaysLocal n.plan (seen n) c.args.input effects.list) c.self.view_is (steps_local v c.work.new.self c.args.input effects before after steps) in
    search (rules, stays)

pub returns-in-Ok-clause-bounded : goal.returns-in-Ok-clause-bounded
returns-in-Ok-clause-bounded g c =
    let now : EdgeLists = the_view c.self-2.inside in
    subst (IsBounded now.plan) (sym (seen_stopped now false)) (subst (λ (n : EdgeLists). IsBounded n.plan (seen n)) (sym c.self-2.view_is) c.bounded-in-Ok.ensures)
