-- A mapping is no longer than its FEC, its label, its status and its switching points.
use Rattle.std.proofs.Common.{arith}
use Rattle.pw_messages.proofs.TellLemmas.{mapping_short}
use Rattle.pw_messages.proofs.messages.mapping.Goals as goal

pub returns-clause-short : goal.returns-clause-short
returns-clause-short c = mapping_short c.args.id c.fec_of-fec.result c.args.label c.args.told.now.status c.args.told.now.points
    (omega (arith, c.fec_size.ensures.size, c.fec_size.ensures.within)) (omega (arith, c.points_size.ensures.size, c.points_size.ensures.most))
