-- The status of a pseudowire, and how it is told (RFC 8077 section 6.3, RFC 4446 section 3.5, RFC 6870).
use Rattle.std.specs.Prelude.{◌≡◌, ◌≢◌, ◌≤◌, ◌+◌, ◌==◌, ◌&&◌, ◌||◌, not, ℕ, Bool, true, false, List, [], ◌∷◌, Option, Some, None, if◌then◌else◌}
use Rattle.std.specs.List.{list_any}
use Rattle.std.specs.Int.{bit_at}
use Rattle.pw_tlvs.specs.declared.pw_status.PwStatus.{PwStatus}
use Rattle.pw_status.specs.declared.method.Method.{Method}
use Rattle.pw_status.specs.declared.method.Method.TheVariants.{Told, Withdrawn}

-- the bit with this number is set
abbrev pub is_set : PwStatus → ℕ → Bool
is_set status bit = bit_at status.0 bit == 1

-- The bits that tell a failure (RFC 4446 section 3.5): 0x01 not forwarding, 0x02 circuit receive fault, 0x04 circuit transmit
-- fault, 0x08 PSN receive fault, 0x10 PSN transmit fault.
abbrev pub failure_bits : List ℕ
failure_bits = 0 ∷ 1 ∷ 2 ∷ 3 ∷ 4 ∷ []

-- the status tells a failure
abbrev pub is_failure : PwStatus → Bool
is_failure status = list_any (is_set status) failure_bits

-- the pseudowire stands by: 0x20 (RFC 6870)
abbrev pub is_standby : PwStatus → Bool
is_standby status = is_set status 5

-- the status with these bits alone
abbrev pub of_bits : ℕ → PwStatus
of_bits bits = record { 0 = bits }

-- the status with these bits, and with the standby bit too where it is to be set
abbrev pub combined : ℕ → Bool → PwStatus
combined bits standby = record { 0 = if standby && not (is_standby (of_bits bits)) then bits + 32 else bits }

-- A status is told where the end offers that and the peer, as far as its mapping is known, tells one too; else a failure is
-- told by a withdrawal (RFC 8077 section 6.3.3).
abbrev pub method_by : Bool → Option (Option PwStatus) → Method
method_by false remote = Withdrawn
method_by true None = Told
method_by true (Some None) = Withdrawn
method_by true (Some (Some status)) = Told

-- A combined status says what was given: it tells a failure where the bits do, it stands by where that is to be set or the bits
-- say so, and each bit but 0x20 is as it was given. Of failure bits alone, which are at most 31, it tells a failure where one of
-- them is set, and stands by where that is to be set.
pub record CombinedAgain : Type 0 where
  pub failure : (bits : ℕ) (standby : Bool) → is_failure (combined bits standby) ≡ is_failure (of_bits bits)
  pub standby : (bits : ℕ) (standby : Bool) → is_standby (combined bits standby) ≡ (standby || is_standby (of_bits bits))
  pub others : (bits : ℕ) (standby : Bool) (bit : ℕ) → bit ≢ 5 → is_set (combined bits standby) bit ≡ is_set (of_bits bits) bit
  pub failure_alone : (bits : ℕ) (standby : Bool) → bits ≤ 31 → is_failure (combined bits standby) ≡ not (bits == 0)
  pub standby_alone : (bits : ℕ) (standby : Bool) → bits ≤ 31 → is_standby (combined bits standby) ≡ standby
