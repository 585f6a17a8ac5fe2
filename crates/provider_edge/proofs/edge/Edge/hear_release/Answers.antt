use Rattle.pw_ends.specs.Ends.{place_of}
use Rattle.edge_model.specs.Signal.{end_of_fec}
use Rattle.provider_edge.proofs.RowLemmas.{named_some, released_some}
use Rattle.provider_edge.specs.Lists.{seen}
use Rattle.provider_edge.proofs.edge.Edge.hear_release.Goals as goal

pub returns-in-Some-clause-step : goal.returns-in-Some-clause-step
returns-in-Some-clause-step c =
    released_some c.args.label (end_of_fec c.args.self.now.plan (seen c.args.self.now) c.args.peer c.args.fec.now) (place_of c.args.self.now.ends c.in-Some.slot) (seen c.args.self.now)
    (seen c.change.new.self)
    (named_some c.slot_of.result c.in-Some.slot c.args.self.now.ends _ (c.slot_of.ensures.named) c.in-Some.is)
    c.change.ensures.step
