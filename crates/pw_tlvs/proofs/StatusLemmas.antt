-- The status of octets is one, or they have one fault.
use Rattle.std.proofs.Common.{◌≡◌, ◌∙◌, ℕ, List, sym}
use Rattle.pw_tlvs.specs.declared.field_fault.FieldFault.{FieldFault}
use Rattle.pw_tlvs.specs.declared.pw_status.PwStatus.{PwStatus}
use Rattle.pw_tlvs.specs.Status.{IsPwStatus, IsStatusFault}

pub one_status : (octets : List ℕ) (a b : PwStatus) → IsPwStatus octets a → IsPwStatus octets b → a ≡ b
one_status octets a b one other = let bits = one.bits ∙ sym other.bits in λ i. record { 0 = bits i }

pub never_status : (octets : List ℕ) (a : PwStatus) (f : FieldFault) → IsPwStatus octets a → IsStatusFault octets f → ⊥
never_status octets a f is named = named.other is.size
