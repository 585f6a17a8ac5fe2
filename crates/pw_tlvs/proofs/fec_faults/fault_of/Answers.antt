-- Where the parameters have no fault, the element has none.
use Rattle.std.proofs.Common.{Ok, ap}
use Rattle.pw_tlvs.proofs.FecLemmas.{element_none}
use Rattle.pw_tlvs.proofs.fec_faults.fault_of.Goals as goal

pub returns-in-Ok-None-2-clause-none : goal.returns-in-Ok-None-2-clause-none
returns-in-Ok-None-2-clause-none c =
    let element = c.in-Ok-None.ensures in
    let is = ap Ok c.in-Ok-None-2.field-0-is in
    element_none c.args.value.now c.split_at.result.1.now c.parameters_fault.result (element.begun is) (element.long is) (element.whole is) c.split_at.ensures.back c.parameters_fault.ensures.none
