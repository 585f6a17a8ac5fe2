use Rattle.std.proofs.Common.{rules}
use Rattle.survey_reach.specs.Words.{has_pair}
use Rattle.survey_text.specs.Relations.{any_pair}
use Rattle.survey_text.proofs.ChangeLemmas.{no_pair, pair_found}
use Rattle.survey_text.proofs.change.has_some.Goals as goal

pub returns-then-has_any : goal.returns-then-has_any
returns-then-has_any c =
    pair_found c.args.pairs.now c.args.edges.now c.loop-edge.edge c.row.result (any_pair c.args.edges.now (has_pair c.args.pairs.now)) c.has_any.result (search rules) c.loop-edge.invariant c.row.ensures
    c.has_any.ensures c.if-has_any.true

pub loop-edge-preserved : goal.loop-edge-preserved
loop-edge-preserved c =
    no_pair c.args.pairs.now c.args.edges.now c.loop-edge.edge c.row.result (any_pair c.args.edges.now (has_pair c.args.pairs.now)) c.has_any.result (search rules) c.loop-edge.invariant c.row.ensures
    c.has_any.ensures c.if-has_any.false
