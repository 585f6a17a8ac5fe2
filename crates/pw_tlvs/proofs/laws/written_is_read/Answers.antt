use Rattle.std.proofs.Common.{refl}
use Rattle.pw_tlvs.proofs.LawLemmas.{fec_again, status_again, point_again}
use Rattle.pw_tlvs.proofs.laws.written_is_read.Goals as goal

pub returns-clause-fec : goal.returns-clause-fec
returns-clause-fec c = fec_again

pub returns-clause-status : goal.returns-clause-status
returns-clause-status c = status_again

pub returns-clause-macs : goal.returns-clause-macs
returns-clause-macs c = λ list whole. record { joined = refl; whole = whole }

pub returns-clause-point : goal.returns-clause-point
returns-clause-point c = point_again
