-- The one spelling of a value that an edge writes.
use Rattle.std.specs.Prelude.{◌≡◌, ◌<◌, ◌≤◌, ◌+◌, ◌^◌, ◌++◌, ◌==◌, ◌&&◌, nat_le, is_none, ℕ, Bool, true, false, List, [], ◌∷◌, length, Option, Some, None, option_map, IfSome}
use Rattle.std.specs.List.{flat_map}
use Rattle.byteorder.specs.Endian.{big_bytes}
use Rattle.pw_tlvs.specs.declared.registry.Registry.TheVariants.{InterfaceParameter, SwitchingPointPart}
use Rattle.pw_tlvs.specs.declared.if_params.IfParams.{IfParams}
use Rattle.pw_tlvs.specs.declared.point.Point.{Point}
use Rattle.pw_tlvs.specs.declared.pw_fec.PwFec.{PwFec}
use Rattle.pw_tlvs.specs.SubTlvs.{SubTlv, spell}

-- the sub-TLV of a type, where there is something to tell
abbrev pub told : ℕ → Option (List ℕ) → List SubTlv
told kind None = []
told kind (Some value) = record { kind = kind; value = value } ∷ []

-- an empty description is not told
abbrev pub description_value : List ℕ → Option (List ℕ)
description_value [] = None
description_value (octet ∷ octets) = Some (octet ∷ octets)

-- the CC and the CV types of VCCV, an octet each (RFC 5085 section 4)
abbrev pub pair_octets : ℕ × ℕ → List ℕ
pair_octets pair = pair.0 ∷ pair.1 ∷ []

-- the known parameters by rising type: Interface MTU, Interface Description, Requested VLAN ID and VCCV (RFC 4446 section 3.3,
-- RFC 4448 section 4.3, RFC 5085 section 5.3.1)
abbrev pub parameter_sub_tlvs : IfParams → List SubTlv
parameter_sub_tlvs params =
    ((told 0x01 (option_map (λ mtu. big_bytes 2 mtu) params.mtu) ++ told 0x03 (description_value params.description))
    ++ told 0x06 (option_map (λ vlan. big_bytes 2 vlan) params.vlan)) ++ told 0x0C (option_map pair_octets params.vccv)

-- the octets of the known parameters
abbrev pub written_parameters : IfParams → List ℕ
written_parameters params = flat_map (spell InterfaceParameter) (parameter_sub_tlvs params)

-- what the information length counts
abbrev pub information : Option ℕ → IfParams → List ℕ
information None params = []
information (Some pw_id) params = big_bytes 4 pw_id ++ written_parameters params

-- the C bit and the PW type in one number of 16 bits
abbrev pub control_and_kind : Bool → ℕ → ℕ
control_and_kind true kind = 0x8000 + kind
control_and_kind false kind = kind

-- a PWid FEC element (RFC 8077 section 6.1)
abbrev pub written_fec : PwFec → List ℕ
written_fec fec =
    0x80 ∷ (big_bytes 2 (control_and_kind fec.c fec.kind) ++ (length (information fec.pw_id fec.params)
    ∷ (big_bytes 4 fec.group ++ information fec.pw_id fec.params)))

-- no interface parameter is told
abbrev pub tells_nothing : IfParams → Bool
tells_nothing params = is_none params.mtu && (length params.description == 0) && (is_none params.vlan && is_none params.vccv)

-- a VLAN ID has 12 bits (IEEE 802.1Q clause 9.6)
abbrev pub has_vlan : Option ℕ → Bool
has_vlan None = true
has_vlan (Some vlan) = nat_le vlan 4095

-- parameters stand behind a PW ID alone
abbrev pub may_tell : Option ℕ → IfParams → Bool
may_tell None params = tells_nothing params
may_tell (Some pw_id) params = true

-- a FEC with a PW type of 15 bits and a VLAN ID of 12 bits, and without parameters where there is no PW ID
abbrev pub writable_fec : PwFec → Bool
writable_fec fec = nat_le fec.kind 0x7FFF && (has_vlan fec.params.vlan && may_tell fec.pw_id fec.params)

-- the parts that are told by rising type: the PW ID, the local and the remote address (RFC 6073 section 7.4.1)
abbrev pub part_sub_tlvs : Point → List SubTlv
part_sub_tlvs point =
    (told 0x01 (option_map (λ pw_id. big_bytes 4 pw_id) point.pw_id) ++ told 0x03 (option_map (λ address. address.0) point.local))
    ++ told 0x04 (option_map (λ address. address.0) point.remote)

-- a Switching Point PE TLV's value (RFC 6073 section 7.4)
abbrev pub written_point : Point → List ℕ
written_point point = flat_map (spell SwitchingPointPart) (part_sub_tlvs point)

-- the numbers of a FEC are those that its type holds
pub record IsFecInRange (fec : PwFec) : Type 0 where
  pub group : fec.group < 2 ^ 32
  pub pw_id : IfSome fec.pw_id (λ pw_id. pw_id < 2 ^ 32)
  pub mtu : IfSome fec.params.mtu (λ mtu. mtu < 2 ^ 16)
  pub description : length fec.params.description ≤ 80

-- the numbers and addresses of a point are those that its type holds
pub record IsPointInRange (point : Point) : Type 0 where
  pub pw_id : IfSome point.pw_id (λ pw_id. pw_id < 2 ^ 32)
  pub local : IfSome point.local (λ address. length address.0 ≡ 4)
  pub remote : IfSome point.remote (λ address. length address.0 ≡ 4)
