use Rattle.std.proofs.Common.{arith}
use Rattle.provider_edge.proofs.SessionsLemmas.{least_last}
use Rattle.provider_edge.proofs.sessions.least_quiet.Goals as goal

pub returns : goal.returns
returns c = least_last c.loop-one.least c.loop-one.one-index c.args.kept.now c.loop-one.invariant.few (omega (arith, c.loop-one-test.false, c.loop-one.auto.one-index-end)) c.loop-one.invariant.least
