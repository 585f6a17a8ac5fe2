-- The status that an end tells: of failure bits, and of standing by.
use Rattle.std.proofs.Common.{◌≡◌, ◌≤◌, ◌∙◌, ℕ, Bool, true, false, not, Option, Some, None, nat_eq, refl, sym, ap, arith}
use Rattle.std.proofs.lemmas.Bool.{eqb-true}
use Rattle.pw_tlvs.specs.declared.pw_status.PwStatus.{PwStatus}
use Rattle.pw_status.specs.Status.{combined, is_failure, is_standby}
use Rattle.pw_status.proofs.StatusLemmas.{combined_again}
use Rattle.pw_signalling.specs.Down.{fails_in, waits_in}

-- what is told is the status of these bits, and of standing by or not, where one is told
abbrev pub IsStatusOf : ℕ → Bool → Option PwStatus → Type 0
IsStatusOf bits standby told = (status : PwStatus) → told ≡ Some status → status ≡ combined bits standby

pub clear_whole : (bits : ℕ) (standby : Bool) (told : Option PwStatus) → nat_eq bits 0 ≡ true → IsStatusOf bits standby told → fails_in told ≡ false
clear_whole bits standby None clear is = refl
clear_whole bits standby (Some status) clear is =
    ap is_failure (is status refl) ∙ (combined_again.failure_alone bits standby few ∙ ap (λ (b : Bool). not b) clear) where
      few : bits ≤ 31
      few = let none : bits ≡ 0 = eqb-true bits 0 clear in omega (arith, none)

pub clear_active : (bits : ℕ) (told : Option PwStatus) → nat_eq bits 0 ≡ true → IsStatusOf bits false told → waits_in told ≡ false
clear_active bits None clear is = refl
clear_active bits (Some status) clear is = ap is_standby (is status refl) ∙ combined_again.standby_alone bits false few where
  few : bits ≤ 31
  few = let none : bits ≡ 0 = eqb-true bits 0 clear in omega (arith, none)

-- where no failure is told there is none
pub whole_clear : (bits : ℕ) (standby : Bool) (status : PwStatus) → bits ≤ 31 → status ≡ combined bits standby → is_failure status ≡ false → nat_eq bits 0 ≡ true
whole_clear bits standby status few is whole = turned (nat_eq bits 0) (sym (combined_again.failure_alone bits standby few) ∙ (ap is_failure (sym is) ∙ whole)) where
  turned : (b : Bool) → not b ≡ false → b ≡ true
  turned true e = refl
  turned false e = sym e
