-- The value of a MAC List TLV (RFC 4762 section 6.2).
use Rattle.std.specs.Prelude.{◌≡◌, ◌≢◌, ◌%◌, ℕ, List, length}
use Rattle.std.specs.List.{AllByRecursion, flat_map}
use Rattle.net_values.specs.declared.mac.Mac.{Mac}
use Rattle.pw_tlvs.specs.declared.field_fault.FieldFault.{FieldFault}
use Rattle.pw_tlvs.specs.declared.field_fault.FieldFault.TheVariants.{Size}

-- the octets of addresses, one after another
abbrev pub mac_octets : List Mac → List ℕ
mac_octets list = flat_map (λ mac. mac.0) list

-- the octets are these addresses of six octets each
pub record AreMacs (octets : List ℕ) (list : List Mac) : Type 0 where
  pub joined : octets ≡ mac_octets list
  pub whole : AllByRecursion (λ mac. length mac.0 ≡ 6) list

-- the one fault that can be named for the octets
pub record IsMacsFault (octets : List ℕ) (fault : FieldFault) : Type 0 where
  pub other : length octets % 6 ≢ 0
  pub is : fault ≡ Size
