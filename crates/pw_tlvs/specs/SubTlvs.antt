-- Sub-TLVs: a type, a length and a value each, one after another in any order (RFC 8077 section 6.4, RFC 6073 section 7.4.1).
use Rattle.std.specs.Prelude.{◌≡◌, ◌<◌, ◌≤◌, ◌+◌, ◌==◌, ◌&&◌, ◌||◌, ◌++◌, ◌⊎◌, not, nat_le, ℕ, Bool, true, false, List, [], ◌∷◌, length, map, filter, slice_index, slice_get, Option, Some, None, IfSome, IsSome, if◌then◌else◌}
use Rattle.std.specs.List.{AllByRecursion, flat_map}
use Rattle.byteorder.specs.Endian.{big_number}
use Rattle.net_values.specs.declared.field.Field.TheVariants as field
use Rattle.pw_tlvs.specs.declared.field_fault.FieldFault.{FieldFault}
use Rattle.pw_tlvs.specs.declared.field_fault.FieldFault.TheVariants.{Value, Repeated}
use Rattle.pw_tlvs.specs.declared.registry.Registry.{Registry}
use Rattle.pw_tlvs.specs.declared.registry.Registry.TheVariants.{InterfaceParameter, SwitchingPointPart}
use Rattle.pw_tlvs.specs.declared.sub_tlv_row.SubTlvRow.{SubTlvRow}
use Rattle.pw_tlvs.specs.Faults.{PrecedesIn, fault_place}

-- a sub-TLV by its type and its value
pub record SubTlv : Type 0 where
  pub kind : ℕ
  pub value : List ℕ

-- how many octets a length counts beside the value: that of an interface parameter counts the type and itself
-- (RFC 8077 section 6.4), that of a part of a Switching Point PE TLV counts the value alone (RFC 6073 section 7.4.1)
abbrev pub counted_in : Registry → ℕ
counted_in InterfaceParameter = 2
counted_in SwitchingPointPart = 0

-- the octets of a sub-TLV
abbrev pub spell : Registry → SubTlv → List ℕ
spell registry s = s.kind ∷ (counted_in registry + length s.value) ∷ s.value

-- the interface parameters that are known, each with its field and the least and the most of its length
-- (RFC 4446 section 3.3, RFC 4448 section 4.3 of the requested VLAN ID, RFC 5085 section 5.3.1 of VCCV)
abbrev pub parameter_row : ℕ → Option SubTlvRow
parameter_row kind =
    if kind == 0x01 then Some (record { field = field.Mtu; least = 4; most = 4 })
    else if kind == 0x03 then Some (record { field = field.Description; least = 2; most = 82 })
    else if kind == 0x06 then Some (record { field = field.Vlan; least = 4; most = 4 })
    else if kind == 0x0C then Some (record { field = field.Vccv; least = 4; most = 4 })
    else None

-- the parts of a Switching Point PE TLV whose meaning is kept: PW ID, local address, remote address (RFC 6073
-- section 7.4.1)
abbrev pub part_row : ℕ → Option SubTlvRow
part_row kind =
    if (kind == 0x01 || kind == 0x03) || kind == 0x04 then Some (record { field = field.Point; least = 4; most = 4 })
    else None

-- the row of a known type
abbrev pub sub_tlv_row : Registry → ℕ → Option SubTlvRow
sub_tlv_row InterfaceParameter kind = parameter_row kind
sub_tlv_row SwitchingPointPart kind = part_row kind

-- the length is one that the row has
abbrev pub row_fits : SubTlvRow → ℕ → Bool
row_fits row length = nat_le row.least length && nat_le length row.most

-- the value is one that its type has: a VLAN ID has 12 bits (IEEE 802.1Q clause 9.6)
abbrev pub allows : Registry → ℕ → List ℕ → Bool
allows InterfaceParameter kind value = not (kind == 0x06) || nat_le (big_number 2 value) 4095
allows SwitchingPointPart kind value = true

-- where its type is known, the length fits and the value is allowed
pub record IsGood (registry : Registry) (s : SubTlv) : Type 0 where
  pub fit : IfSome (sub_tlv_row registry s.kind) (λ row. row_fits row (counted_in registry + length s.value) ≡ true)
  pub allowed : allows registry s.kind s.value ≡ true

-- the values of the sub-TLVs of a type, in order
abbrev pub values : ℕ → List SubTlv → List (List ℕ)
values kind subs = map (λ s. s.value) (filter (λ s. s.kind == kind) subs)

-- what a type that stands at most once says
abbrev pub said : ℕ → List SubTlv → Option (List ℕ)
said kind subs = slice_get (values kind subs) 0

-- each is good, and no known type comes twice
pub record AreGood (registry : Registry) (subs : List SubTlv) : Type 0 where
  pub good : AllByRecursion (IsGood registry) subs
  pub once : (kind : ℕ) → IsSome (sub_tlv_row registry kind) → length (values kind subs) ≤ 1

-- the octets are these sub-TLVs joined
pub record AreSubTlvs (registry : Registry) (octets : List ℕ) (subs : List SubTlv) : Type 0 where
  pub joined : octets ≡ flat_map (spell registry) subs
  pub good : AreGood registry subs

-- the length counts less than it has to, or reaches past the end
abbrev pub IsOutside : Registry → List ℕ → Type 0
IsOutside registry rest = (slice_index rest 1 < counted_in registry) ⊎ (counted_in registry + length rest < 2 + slice_index rest 1)

-- the fault of one last octet that stands alone
abbrev pub lone_fault : Registry → ℕ → FieldFault
lone_fault InterfaceParameter at = Value at field.Parameter
lone_fault SwitchingPointPart at = Value at field.Point

-- the fault of a length that counts too little or too much
abbrev pub outside_fault : Registry → ℕ → FieldFault
outside_fault InterfaceParameter at = Value (at + 1) field.Parameter
outside_fault SwitchingPointPart at = Value at field.Point

-- what is wrong with the octets at a place, where these sub-TLVs stand before them
pub data IsWrong (registry : Registry) (before : List SubTlv) (rest : List ℕ) (at : ℕ) (fault : FieldFault) : Type 0 where
  lone : length rest ≡ 1 → fault ≡ lone_fault registry at → IsWrong registry before rest at fault
  outside : 2 ≤ length rest → IsOutside registry rest → fault ≡ outside_fault registry at → IsWrong registry before rest at fault
  misfit : (row : SubTlvRow) → 2 ≤ length rest → sub_tlv_row registry (slice_index rest 0) ≡ Some row → row_fits row (slice_index rest 1) ≡ false
      → fault ≡ Value (at + 1) row.field → IsWrong registry before rest at fault
  excess : (row : SubTlvRow) (s : SubTlv) (more : List ℕ) → rest ≡ spell registry s ++ more → sub_tlv_row registry s.kind ≡ Some row
      → row_fits row (counted_in registry + length s.value) ≡ true → allows registry s.kind s.value ≡ false
      → fault ≡ Value (at + 2) row.field → IsWrong registry before rest at fault
  again : (row : SubTlvRow) → 1 ≤ length rest → sub_tlv_row registry (slice_index rest 0) ≡ Some row
      → 1 ≤ length (values (slice_index rest 0) before) → fault ≡ Repeated at row.field → IsWrong registry before rest at fault

-- the fault can be named for the octets, which begin at this place of the value: sub-TLVs stand before it, good or not
pub record IsNamed (registry : Registry) (begin : ℕ) (octets : List ℕ) (fault : FieldFault) : Type 0 where
  pub before : List SubTlv
  pub rest : List ℕ
  pub split : octets ≡ flat_map (spell registry) before ++ rest
  pub wrong : IsWrong registry before rest (begin + length (flat_map (spell registry) before)) fault

-- this is the first of what is wrong at a place, and stands before the end of a sub-TLV that begins there
pub record IsFirstWrong (registry : Registry) (before : List SubTlv) (rest : List ℕ) (at : ℕ) (fault : FieldFault) : Type 0 where
  pub wrong : IsWrong registry before rest at fault
  pub first : (other : FieldFault) → IsWrong registry before rest at other → PrecedesIn fault other
  pub within : (s : SubTlv) (more : List ℕ) → rest ≡ spell registry s ++ more → fault_place fault < at + length (spell registry s)

-- whether one of a type stands before; of an unknown type it is not asked
abbrev pub Stood : Registry → List SubTlv → ℕ → Bool → Type 0
Stood registry before kind true = 1 ≤ length (values kind before)
Stood registry before kind false = IsSome (sub_tlv_row registry kind) → values kind before ≡ []
