-- A value has no fault, and two first faults are one.
use Rattle.pw_tlvs.proofs.FaultLemmas.{one_first}
use Rattle.pw_tlvs.proofs.FecLemmas.{never_fec}
use Rattle.pw_tlvs.proofs.MacLemmas.{never_macs}
use Rattle.pw_tlvs.proofs.PointLemmas.{never_point}
use Rattle.pw_tlvs.proofs.StatusLemmas.{never_status}
use Rattle.pw_tlvs.proofs.laws.one_fault.Goals as goal

pub returns-clause-fec : goal.returns-clause-fec
returns-clause-fec c = never_fec

pub returns-clause-status : goal.returns-clause-status
returns-clause-status c = never_status

pub returns-clause-macs : goal.returns-clause-macs
returns-clause-macs c = never_macs

pub returns-clause-point : goal.returns-clause-point
returns-clause-point c = never_point

pub returns-clause-first_of_fec : goal.returns-clause-first_of_fec
returns-clause-first_of_fec c = λ octets a b one other. one_first a b one other

pub returns-clause-first_of_status : goal.returns-clause-first_of_status
returns-clause-first_of_status c = λ octets a b one other. one_first a b one other

pub returns-clause-first_of_macs : goal.returns-clause-first_of_macs
returns-clause-first_of_macs c = λ octets a b one other. one_first a b one other

pub returns-clause-first_of_point : goal.returns-clause-first_of_point
returns-clause-first_of_point c = λ octets a b one other. one_first a b one other
