-- A MAC withdraw is no longer than its FEC, which has no parameters, and its addresses.
use Rattle.std.proofs.Common.{arith}
use Rattle.pw_messages.proofs.TellLemmas.{withdrawal_short}
use Rattle.pw_messages.proofs.messages.mac_withdrawal.Goals as goal

pub returns-clause-short : goal.returns-clause-short
returns-clause-short c = λ few. withdrawal_short c.args.id c.args.pw_id c.args.told.now c.bare_fec_of-fec.result c.args.addresses c.bare_fec_of-fec.ensures.fec
    (omega (arith, few, c.macs_size.ensures.size, c.macs_size.ensures.six))
