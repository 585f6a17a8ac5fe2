use Rattle.pw_tlvs.proofs.FecLemmas.{one_fec}
use Rattle.pw_tlvs.proofs.StatusLemmas.{one_status}
use Rattle.pw_tlvs.proofs.MacLemmas.{one_macs}
use Rattle.pw_tlvs.proofs.PointLemmas.{one_point}
use Rattle.pw_tlvs.proofs.laws.one_value.Goals as goal

pub returns-clause-fec : goal.returns-clause-fec
returns-clause-fec c = one_fec

pub returns-clause-status : goal.returns-clause-status
returns-clause-status c = one_status

pub returns-clause-macs : goal.returns-clause-macs
returns-clause-macs c = one_macs

pub returns-clause-point : goal.returns-clause-point
returns-clause-point c = one_point
