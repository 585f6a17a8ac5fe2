-- The value of a FEC TLV (RFC 5036 section 3.4.1) with a PWid FEC element (RFC 8077 section 6.1).
use Rattle.std.specs.Prelude.{◌≡◌, ◌<◌, ◌≤◌, ◌+◌, ◌%◌, ◌⊎◌, ◌≢◌, nat_le, ℕ, List, [], length, drop, slice_index, Option, Some, None, option_map}
use Rattle.byteorder.specs.Endian.{big_number}
use Rattle.net_values.specs.declared.field.Field.TheVariants as field
use Rattle.pw_tlvs.specs.declared.field_fault.FieldFault.{FieldFault}
use Rattle.pw_tlvs.specs.declared.field_fault.FieldFault.TheVariants.{Size, Value}
use Rattle.pw_tlvs.specs.declared.fec_value.FecValue.{FecValue}
use Rattle.pw_tlvs.specs.declared.fec_value.FecValue.TheVariants.{Pw, Foreign}
use Rattle.pw_tlvs.specs.declared.registry.Registry.TheVariants.{InterfaceParameter}
use Rattle.pw_tlvs.specs.declared.if_params.IfParams.{IfParams}
use Rattle.pw_tlvs.specs.declared.pw_fec.PwFec.{PwFec}
use Rattle.pw_tlvs.specs.SubTlvs.{SubTlv, AreSubTlvs, IsNamed, said}

-- no parameter is told
abbrev pub no_params : IfParams
no_params = record { mtu = None; description = []; vlan = None; vccv = None }

-- a text that is told, or else the empty one
abbrev pub text_of : Option (List ℕ) → List ℕ
text_of None = []
text_of (Some text) = text

-- the two octets of a VCCV parameter: control channel types, connectivity verification types (RFC 5085 section 5.3.1)
abbrev pub vccv_of : List ℕ → ℕ × ℕ
vccv_of value = (slice_index value 0, slice_index value 1)

-- the octets are interface parameters, and these are what the known ones say
pub record AreParameters (octets : List ℕ) (params : IfParams) : Type 0 where
  pub subs : List SubTlv
  pub are : AreSubTlvs InterfaceParameter octets subs
  pub mtu : params.mtu ≡ option_map (λ value. big_number 2 value) (said 0x01 subs)
  pub description : params.description ≡ text_of (said 0x03 subs)
  pub vlan : params.vlan ≡ option_map (λ value. big_number 2 value) (said 0x06 subs)
  pub vccv : params.vccv ≡ option_map vccv_of (said 0x0C subs)

-- a PWid FEC element begins here, with all its octets up to the PW ID
pub record IsPwid (octets : List ℕ) : Type 0 where
  pub element : slice_index octets 0 ≡ 0x80
  pub header : 8 ≤ length octets

-- the information length; what it counts begins behind the eighth octet
abbrev pub information_length : List ℕ → ℕ
information_length octets = slice_index octets 3

-- a length of 1 to 3 is too short for a PW ID
abbrev pub IsTooShort : ℕ → Type 0
IsTooShort count = (1 ≤ count) × (count ≤ 3)

-- what the information length counts: nothing, or a PW ID and interface parameters
abbrev pub IsInformation : List ℕ → Option ℕ → IfParams → Type 0
IsInformation information None params = (information ≡ []) × (params ≡ no_params)
IsInformation information (Some pw_id) params =
    (4 ≤ length information) × (pw_id ≡ big_number 4 information) × AreParameters (drop 4 information) params

-- the octets are one PWid FEC element
pub record IsPwFec (octets : List ℕ) (fec : PwFec) : Type 0 where
  pub begun : IsPwid octets
  pub c : fec.c ≡ nat_le 0x8000 (big_number 2 (drop 1 octets))
  pub kind : fec.kind ≡ big_number 2 (drop 1 octets) % 0x8000
  pub whole : length octets ≡ 8 + information_length octets
  pub group : fec.group ≡ big_number 4 (drop 4 octets)
  pub information : IsInformation (drop 8 octets) fec.pw_id fec.params

-- the octets begin with an element of another type
pub record IsOtherElement (octets : List ℕ) (first : ℕ) : Type 0 where
  pub some : 1 ≤ length octets
  pub is : first ≡ slice_index octets 0
  pub other : first ≢ 0x80

-- further octets follow a PWid FEC element, whose information is not looked at
pub record IsFollowed (octets : List ℕ) (first : ℕ) : Type 0 where
  pub begun : IsPwid octets
  pub is : first ≡ 0x80
  pub long : IsTooShort (information_length octets) → ⊥
  pub more : 8 + information_length octets < length octets

-- the octets are this value of a FEC TLV
abbrev pub IsFecValue : List ℕ → FecValue → Type 0
IsFecValue octets (Pw fec) = IsPwFec octets fec
IsFecValue octets (Foreign first) = IsOtherElement octets first ⊎ IsFollowed octets first

-- the faults that can be named for the octets of a FEC TLV
pub data IsFecFault (octets : List ℕ) (fault : FieldFault) : Type 0 where
  empty : length octets ≡ 0 → fault ≡ Size → IsFecFault octets fault
  short : 1 ≤ length octets → slice_index octets 0 ≡ 0x80 → length octets < 8 → fault ≡ Size → IsFecFault octets fault
  too_short : IsPwid octets → IsTooShort (information_length octets) → fault ≡ Value 3 field.InfoLength → IsFecFault octets fault
  past_end : IsPwid octets → length octets < 8 + information_length octets → fault ≡ Value 3 field.InfoLength → IsFecFault octets fault
  parameter : IsPwid octets → (IsTooShort (information_length octets) → ⊥) → 1 ≤ information_length octets
      → length octets ≡ 8 + information_length octets → IsNamed InterfaceParameter 12 (drop 12 octets) fault → IsFecFault octets fault
