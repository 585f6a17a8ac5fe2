use Rattle.std.proofs.Common.{◌∙◌}
use Rattle.seen_state.proofs.CalmLemmas.{shown_calm}
use Rattle.seen_state.proofs.seen_edges.SeenEdges.is_calm.Goals as goal

pub returns : goal.returns
returns c = λ seen shows. c.is_calm.ensures ∙ shown_calm c.args.plan.now c.args.self.now seen c.args.service shows
