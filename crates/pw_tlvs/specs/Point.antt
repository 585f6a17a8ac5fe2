-- The value of a Switching Point PE TLV (RFC 6073 section 7.4).
use Rattle.std.specs.Prelude.{◌≡◌, ℕ, List, option_map}
use Rattle.byteorder.specs.Endian.{big_number}
use Rattle.net_values.specs.declared.addr.Addr.{Addr}
use Rattle.pw_tlvs.specs.declared.field_fault.FieldFault.{FieldFault}
use Rattle.pw_tlvs.specs.declared.registry.Registry.TheVariants.{SwitchingPointPart}
use Rattle.pw_tlvs.specs.declared.point.Point.{Point}
use Rattle.pw_tlvs.specs.SubTlvs.{SubTlv, AreSubTlvs, IsNamed, said}

-- the address with these four octets
abbrev pub address_of : List ℕ → Addr
address_of octets = record { 0 = octets }

-- the octets are parts of a switching point, and this is what the known ones say
pub record IsPoint (octets : List ℕ) (point : Point) : Type 0 where
  pub subs : List SubTlv
  pub are : AreSubTlvs SwitchingPointPart octets subs
  pub pw_id : point.pw_id ≡ option_map (λ value. big_number 4 value) (said 0x01 subs)
  pub local : point.local ≡ option_map address_of (said 0x03 subs)
  pub remote : point.remote ≡ option_map address_of (said 0x04 subs)

-- the faults that can be named for the octets
abbrev pub IsPointFault : List ℕ → FieldFault → Type 0
IsPointFault octets fault = IsNamed SwitchingPointPart 0 octets fault
