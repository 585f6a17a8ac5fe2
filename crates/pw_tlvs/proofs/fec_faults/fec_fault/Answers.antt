-- The first fault is answered exactly where it is so.
use Rattle.pw_tlvs.specs.Faults.{IsInside}
use Rattle.pw_tlvs.specs.Fec.{IsFecFault}
use Rattle.pw_tlvs.proofs.FecLemmas.{fec_inside}
use Rattle.pw_tlvs.proofs.ExactLemmas.{exact_fault, some_of_named}
use Rattle.pw_tlvs.proofs.fec_faults.fec_fault.Goals as goal

pub returns-clause-fault : goal.returns-clause-fault
returns-clause-fault c = exact_fault (IsFecFault c.args.value.now) c.fault_of.result c.fault_of.ensures.fault c.fault_of.ensures.none

pub returns-clause-place : goal.returns-clause-place
returns-clause-place c = some_of_named (IsFecFault c.args.value.now) (IsInside c.args.value.now) c.fault_of.result c.fault_of.ensures.fault (fec_inside c.args.value.now)
