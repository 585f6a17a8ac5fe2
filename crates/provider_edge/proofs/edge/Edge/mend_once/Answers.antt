-- The steps of a round come in the definition's order, each over the same plan and place.
use Rattle.std.proofs.Common.{◌∙◌, List, None, Option, ap}
use Rattle.net_base.specs.declared.plan.places.WireId.{WireId}
use Rattle.edge_forwarding.specs.Views.{view}
use Rattle.peer_dialogue.proofs.SpeakerLemmas.{agrees_before}
use Rattle.peer_dialogue.specs.Peering.{at_edge}
use Rattle.provider_edge.proofs.AtWorkLemmas.{works_and, works_both, works_then}
use Rattle.provider_edge.proofs.ListLemmas.{keeps_both}
use Rattle.provider_edge.proofs.MendLemmas.{choices_kept, chosen_at, chosen_kept, downs_kept, me_at, once_done, statuses_kept}
use Rattle.provider_edge.specs.AtWork.{Works, at_work}
use Rattle.provider_edge.specs.Lists.{seen}
use Rattle.provider_edge.proofs.edge.Edge.mend_once.Goals as goal

pub returns-clause-step : goal.returns-clause-step
returns-clause-step g c = λ told agrees.
    once_done c.args.self.now.plan told c.args.self.now.me (view None c.as_slice.result.now) (at_work g.L.Link.calls c.args.self.now c.args.work.now)
    (at_edge (seen c.settle_downs.new.self) (g.L.Link.calls c.mend_choices.new.work.link.now) c.settle_downs.new.out)
    (record { work = at_work g.L.Link.calls c.mend_ends.new.self c.mend_ends.new.work; failed = c.in_ok-refused.refused })
    (record { work = at_work g.L.Link.calls c.choose_spokes.new.self c.mend_ends.new.work; failed = c.in_ok-refused.refused })
    (record { work = at_work g.L.Link.calls c.mend_statuses.new.self c.mend_statuses.new.work; failed = c.in_ok-untold.untold })
    (record { work = at_work g.L.Link.calls c.mend_choices.new.self c.mend_choices.new.work; failed = c.in_ok-failed.failed })
    (me_at c.args.self.now (g.L.Link.calls c.args.work.now.link.now) c.args.work.now.effects.now.list)
    (ap (λ (l : List (Option WireId)). view None l) c.as_slice.ensures.value ∙ c.in_ok-before.ensures
    ∙ chosen_at c.args.self.now (g.L.Link.calls c.args.work.now.link.now) c.args.work.now.effects.now.list)
    (c.in_ok-refused.ensures.step told (agrees_before told _ _ c.in_ok-untold.ensures.goes.on.calls (agrees_before told _ _ c.in_ok-failed.ensures.goes.on.calls agrees)))
    (chosen_kept c.args.self.now c.mend_ends.new.self c.choose_spokes.new.self _ _ c.in_ok-refused.refused c.in_ok-refused.ensures.goes.keeps (c.choose_spokes.ensures.step))
    (statuses_kept c.args.self.now c.choose_spokes.new.self told _ _ (keeps_both _ _ _ c.in_ok-refused.ensures.goes.keeps c.choose_spokes.ensures.keeps)
    (c.in_ok-untold.ensures.step told (agrees_before told _ _ c.in_ok-failed.ensures.goes.on.calls agrees)))
    (choices_kept c.args.self.now c.mend_statuses.new.self told (view None c.as_slice.result.now) _ _
    (keeps_both _ _ _ c.in_ok-refused.ensures.goes.keeps (keeps_both _ _ _ c.choose_spokes.ensures.keeps c.in_ok-untold.ensures.goes.keeps)) (c.in_ok-failed.ensures.step told agrees))
    (downs_kept c.args.self.now c.mend_choices.new.self _ _
    (keeps_both _ _ _ c.in_ok-refused.ensures.goes.keeps (keeps_both _ _ _ c.choose_spokes.ensures.keeps (keeps_both _ _ _ c.in_ok-untold.ensures.goes.keeps c.in_ok-failed.ensures.goes.keeps)))
    (c.in_ok-settle_downs.ensures.step (g.L.Link.calls c.mend_choices.new.work.link.now)))

pub returns-clause-goes : goal.returns-clause-goes
returns-clause-goes g c =
    let did : Works g.L.Link.calls c.args.self.now c.args.work.now c.settle_downs.new.self c.mend_choices.new.work =
    works_both g.L.Link.calls _ _ _ _ _ _ c.in_ok-refused.ensures.goes
    (works_then g.L.Link.calls _ _ _ _ _ c.choose_spokes.ensures.keeps
    (works_both g.L.Link.calls _ _ _ _ _ _ c.in_ok-untold.ensures.goes (works_and g.L.Link.calls _ _ _ _ _ c.in_ok-failed.ensures.goes c.in_ok-settle_downs.ensures.keeps))) in
    record { keeps = did.keeps; on = record { link = did.on.link; effects = did.on.effects; idle = did.on.idle; calls = did.on.calls } }

pub returns-in_err-untold-clause-goes : goal.returns-in_err-untold-clause-goes
returns-in_err-untold-clause-goes g c = works_both g.L.Link.calls _ _ _ _ _ _ c.in_ok-refused.ensures.goes
    (works_then g.L.Link.calls _ _ _ _ _ c.choose_spokes.ensures.keeps c.mend_statuses.ensures.goes)

pub returns-in_err-failed-clause-goes : goal.returns-in_err-failed-clause-goes
returns-in_err-failed-clause-goes g c = works_both g.L.Link.calls _ _ _ _ _ _ c.in_ok-refused.ensures.goes
    (works_then g.L.Link.calls _ _ _ _ _ c.choose_spokes.ensures.keeps (works_both g.L.Link.calls _ _ _ _ _ _ c.in_ok-untold.ensures.goes c.mend_choices.ensures.goes))

pub returns-in_err-settle_downs-clause-goes : goal.returns-in_err-settle_downs-clause-goes
returns-in_err-settle_downs-clause-goes g c =
    let did : Works g.L.Link.calls c.args.self.now c.args.work.now c.settle_downs.new.self c.mend_choices.new.work =
    works_both g.L.Link.calls _ _ _ _ _ _ c.in_ok-refused.ensures.goes
    (works_then g.L.Link.calls _ _ _ _ _ c.choose_spokes.ensures.keeps
    (works_both g.L.Link.calls _ _ _ _ _ _ c.in_ok-untold.ensures.goes (works_and g.L.Link.calls _ _ _ _ _ c.in_ok-failed.ensures.goes c.settle_downs.ensures.keeps))) in
    record { keeps = did.keeps; on = record { link = did.on.link; effects = did.on.effects; idle = did.on.idle; calls = did.on.calls } }
