-- The value of a PW Status TLV (RFC 8077 section 6.3.2).
use Rattle.std.specs.Prelude.{◌≡◌, ◌≢◌, ℕ, List, length}
use Rattle.byteorder.specs.Endian.{big_number, big_bytes}
use Rattle.pw_tlvs.specs.declared.pw_status.PwStatus.{PwStatus}
use Rattle.pw_tlvs.specs.declared.field_fault.FieldFault.{FieldFault}
use Rattle.pw_tlvs.specs.declared.field_fault.FieldFault.TheVariants.{Size}

-- the octets are four, and their number is the status
pub record IsPwStatus (octets : List ℕ) (status : PwStatus) : Type 0 where
  pub size : length octets ≡ 4
  pub bits : status.0 ≡ big_number 4 octets

-- the one fault that can be named for the octets
pub record IsStatusFault (octets : List ℕ) (fault : FieldFault) : Type 0 where
  pub other : length octets ≢ 4
  pub is : fault ≡ Size

-- the octets that are written
abbrev pub written_status : PwStatus → List ℕ
written_status status = big_bytes 4 status.0
