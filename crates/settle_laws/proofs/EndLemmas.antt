-- Where an end forwards, by what it tells and what it holds.
use Rattle.std.proofs.Common.{◌≡◌, ℕ, Bool, true, false, not, Some, None, nat_eq, refl, sym}
use Rattle.net_values.proofs.RowLemmas.{none_passes}
use Rattle.net_base.specs.declared.trace.down.Down.TheVariants as cause
use Rattle.pw_signalling.specs.declared.binding.Binding.{Binding}
use Rattle.pw_signalling.specs.declared.end_role.EndRole.{EndRole}
use Rattle.pw_signalling.specs.declared.told.Told.{Told}
use Rattle.pw_signalling.specs.Down.{causes, differ, down, fails_in, holds_cause, mtus_differ, stands_by}
use Rattle.pw_signalling.specs.End.{EndState, Advertised}

-- what an end tells fits what it holds, and nothing else keeps it down
pub record Fits (role : EndRole) (bits : ℕ) (own far : Told) : Type 0 where
  pub c_bits : differ own.c far.c ≡ false
  pub kinds : nat_eq own.kind far.kind ≡ true
  pub mtus : mtus_differ own.mtu far.mtu ≡ false
  pub clear : nat_eq bits 0 ≡ true
  pub whole : fails_in far.status ≡ false
  pub active : stands_by role far.status ≡ false

-- an end that advertises and is bound
abbrev pub joined_end : ℕ → Told → Binding → EndState
joined_end label own binding = record { local = Advertised label own; remote = Some binding }

pub fits_up : (role : EndRole) (bits label : ℕ) (own : Told) (binding : Binding) → Fits role bits own binding.told → down role bits (joined_end label own binding) ≡ None
unfolding down
fits_up role bits label own binding fits = rw (fits.c_bits, fits.kinds, fits.mtus, fits.clear, fits.whole, fits.active) refl

not_false : (b : Bool) → not b ≡ false → b ≡ true
not_false true is = refl
not_false false is = sym is

pub up_fits : (role : EndRole) (bits label : ℕ) (own : Told) (binding : Binding) → down role bits (joined_end label own binding) ≡ None → Fits role bits own binding.told
unfolding down
up_fits role bits label own binding up = record {
  c_bits = none_passes (holds_cause role bits (Some own) (Some binding.told)) causes 2 cause.CBit up refl;
  kinds = not_false (nat_eq own.kind binding.told.kind) (none_passes (holds_cause role bits (Some own) (Some binding.told)) causes 3 cause.Kind up refl);
  mtus = none_passes (holds_cause role bits (Some own) (Some binding.told)) causes 4 cause.Mtu up refl;
  clear = not_false (nat_eq bits 0) (none_passes (holds_cause role bits (Some own) (Some binding.told)) causes 5 cause.LocalFault up refl);
  whole = none_passes (holds_cause role bits (Some own) (Some binding.told)) causes 6 cause.RemoteFault up refl;
  active = none_passes (holds_cause role bits (Some own) (Some binding.told)) causes 7 cause.Standby up refl;
}
