use Rattle.std.proofs.Common.{◌∙◌, Option, ap, sym}
use Rattle.net_base.specs.declared.plan.places.WireId.{WireId}
use Rattle.edge_model.specs.Spokes.{choice}
use Rattle.edge_model.specs.State.{put_at, with_chosen}
use Rattle.provider_edge.proofs.SettledLemmas.{chosen_already}
use Rattle.provider_edge.specs.Lists.{seen}
use Rattle.provider_edge.proofs.edge.Edge.choose_spoke.Goals as goal

pub returns-then-passes_by-clause-step : goal.returns-then-passes_by-clause-step
returns-then-passes_by-clause-step c =
    sym (chosen_already c.args.service (choice c.args.self.now.plan (seen c.args.self.now) (record { 0 = c.args.service })) (seen c.args.self.now) (c.passes_by.ensures c.if-passes_by.true))

pub returns-clause-step : goal.returns-clause-step
returns-clause-step c =
    c.set_chosen.ensures.step
    ∙ ap (λ (w : Option WireId). with_chosen (put_at (seen c.args.self.now).chosen c.args.service w) (seen c.args.self.now)) c.choice-chosen.ensures
