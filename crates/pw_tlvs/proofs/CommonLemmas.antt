-- What several crates and files need of the definitions here.
use Rattle.std.proofs.Common.{◌<◌, ◌^◌, ◌≡◌, Bool, cond, false, true}
use Rattle.std.specs.Prelude.{Option, Some}
use Rattle.pw_tlvs.specs.declared.point.Point.{Point}
use Rattle.pw_tlvs.specs.declared.pw_status.PwStatus.{PwStatus}

pub by_side : (b : Bool) {one passed : PwStatus} → one.0 < 2 ^ 32 → passed.0 < 2 ^ 32 → (cond b one passed).0 < 2 ^ 32
by_side true one passed = one
by_side false one passed = passed

pub same_point : (o : Option Point) (a b : Point) → o ≡ Some a → o ≡ Some b → a ≡ b
same_point o a b is_a is_b = cc
