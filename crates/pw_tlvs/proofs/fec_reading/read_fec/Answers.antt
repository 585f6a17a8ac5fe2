-- Each answer comes exactly where it is so.
use Rattle.pw_tlvs.specs.Faults.{IsInside}
use Rattle.pw_tlvs.specs.Fec.{IsFecValue, IsFecFault}
use Rattle.pw_tlvs.proofs.FecLemmas.{one_fec, never_fec, fec_inside}
use Rattle.pw_tlvs.proofs.ExactLemmas.{exact_ok, exact_err, err_of_named}
use Rattle.pw_tlvs.proofs.fec_reading.read_fec.Goals as goal

pub returns-clause-value : goal.returns-clause-value
returns-clause-value c = exact_ok (IsFecValue c.args.value.now) (IsFecFault c.args.value.now) (one_fec c.args.value.now)
    (never_fec c.args.value.now) c.fec_of.result c.fec_of.ensures.ok c.fec_of.ensures.fault

pub returns-clause-fault : goal.returns-clause-fault
returns-clause-fault c = exact_err (IsFecValue c.args.value.now) (IsFecFault c.args.value.now) (never_fec c.args.value.now) c.fec_of.result c.fec_of.ensures.ok c.fec_of.ensures.fault

pub returns-clause-place : goal.returns-clause-place
returns-clause-place c = err_of_named (IsFecFault c.args.value.now) (IsInside c.args.value.now) c.fec_of.result c.fec_of.ensures.fault (fec_inside c.args.value.now)
