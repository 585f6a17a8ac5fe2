-- Each answer comes exactly where it is so.
use Rattle.pw_tlvs.specs.Faults.{IsInside}
use Rattle.pw_tlvs.specs.Point.{IsPoint, IsPointFault}
use Rattle.pw_tlvs.proofs.PointLemmas.{one_point, never_point, point_inside}
use Rattle.pw_tlvs.proofs.ExactLemmas.{exact_ok, exact_err, err_of_named}
use Rattle.pw_tlvs.proofs.point_reading.read_point.Goals as goal

pub returns-clause-value : goal.returns-clause-value
returns-clause-value c = exact_ok (IsPoint c.args.value.now) (IsPointFault c.args.value.now) (one_point c.args.value.now)
    (never_point c.args.value.now) c.point_of.result c.point_of.ensures.ok c.point_of.ensures.fault

pub returns-clause-fault : goal.returns-clause-fault
returns-clause-fault c = exact_err (IsPoint c.args.value.now) (IsPointFault c.args.value.now) (never_point c.args.value.now) c.point_of.result c.point_of.ensures.ok c.point_of.ensures.fault

pub returns-clause-place : goal.returns-clause-place
returns-clause-place c = err_of_named (IsPointFault c.args.value.now) (IsInside c.args.value.now) c.point_of.result c.point_of.ensures.fault (point_inside c.args.value.now)
