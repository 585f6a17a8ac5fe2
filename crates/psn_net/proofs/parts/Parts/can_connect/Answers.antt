use Rattle.std.proofs.Common.{sym}
use Rattle.psn_net.proofs.ConnectionLemmas.{two_joined}
use Rattle.psn_net.proofs.parts.Parts.can_connect.Goals as goal

pub returns-then-not-stands-clause-apart : goal.returns-then-not-stands-clause-apart
returns-then-not-stands-clause-apart c = λ can. two_joined c.self.inside.plan c.args.a.0 c.args.b.0 c.self.invariant.checked (sym c.if-joined.ensures)
