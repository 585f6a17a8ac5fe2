-- What an end that forwards has, and one that advertises.
use Rattle.move_laws.specs.Healing.{is_advertising}
use Rattle.net_base.specs.declared.trace.down.Down.TheVariants as cause
use Rattle.pw_signalling.specs.Down.{causes, down, far_told, holds_cause, own_told}
use Rattle.pw_signalling.specs.End.{Advertised, EndState, LocalPart}
use Rattle.pw_signalling.specs.declared.end_role.EndRole.{EndRole}
use Rattle.pw_signalling.specs.declared.told.Told.{Told}
use Rattle.std.proofs.Common.{None, ap, arith, false, not, refl, true, ℕ, ◌==◌, ◌≡◌}
use Rattle.std.proofs.lemmas.Bool.Decides.{nat_tests}
use Rattle.net_values.proofs.RowLemmas.{none_passes}

zero_of : (n : ℕ) → not (n == 0) ≡ false → n ≡ 0
zero_of n is = grind (arith, nat_tests)

-- it has no failure bits
pub forwards_whole : (role : EndRole) (bits : ℕ) (e : EndState) → down role bits e ≡ None → bits ≡ 0
unfolding down
forwards_whole role bits e up = zero_of bits (none_passes (holds_cause role bits (own_told e.local) (far_told e.remote)) causes 5 cause.LocalFault up refl)

pub advertises_it : (label : ℕ) (content : Told) (local : LocalPart) → local ≡ Advertised label content → is_advertising local ≡ true
advertises_it label content local at = ap is_advertising at
