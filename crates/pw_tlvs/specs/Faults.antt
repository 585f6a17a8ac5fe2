-- Faults of a value, and the first of those that can be named.
use Rattle.std.specs.Prelude.{◌≡◌, ◌<◌, ◌≤◌, ◌+◌, ◌⊎◌, ℕ, List, length}
use Rattle.net_values.specs.declared.field.Field.{Field}
use Rattle.net_values.specs.declared.field.Field.TheVariants as field
use Rattle.pw_tlvs.specs.declared.field_fault.FieldFault.{FieldFault}
use Rattle.pw_tlvs.specs.declared.field_fault.FieldFault.TheVariants.{Size, Value, Repeated}

-- the order of the fields
abbrev pub field_rank : Field → ℕ
field_rank field.Fec = 0
field_rank field.AddressList = 1
field_rank field.Label = 2
field_rank field.Status = 3
field_rank field.Hello = 4
field_rank field.Transport = 5
field_rank field.MacList = 6
field_rank field.Session = 7
field_rank field.RequestId = 8
field_rank field.PwStatus = 9
field_rank field.Point = 10
field_rank field.InfoLength = 11
field_rank field.Parameter = 12
field_rank field.Mtu = 13
field_rank field.Description = 14
field_rank field.Vlan = 15
field_rank field.Vccv = 16

-- the octet at fault; a wrong size is seen at the TLV's length, before all octets of the value
abbrev pub fault_place : FieldFault → ℕ
fault_place Size = 0
fault_place (Value at field) = at
fault_place (Repeated at field) = at

-- how many fields there are
abbrev pub field_count : ℕ
field_count = 17

-- which of two faults at one octet comes first: a wrong size, a wrong value by the order of the fields, what comes again by it
abbrev pub rank_of : FieldFault → ℕ
rank_of Size = 0
rank_of (Value at field) = 1 + field_rank field
rank_of (Repeated at field) = 1 + field_count + field_rank field

-- one fault comes before another, or is at the same octet and not behind it
abbrev pub PrecedesIn : FieldFault → FieldFault → Type 0
PrecedesIn one other = (fault_place one < fault_place other) ⊎ ((fault_place one ≡ fault_place other) × (rank_of one ≤ rank_of other))

-- a fault is at one of the octets of the value, but for a wrong size
abbrev pub IsInside : List ℕ → FieldFault → Type 0
IsInside octets fault = (fault ≡ Size) ⊎ (fault_place fault < length octets)

-- of all faults that can be named this is the first
pub record IsFirstIn (Named : FieldFault → Type 0) (fault : FieldFault) : Type 0 where
  pub named : Named fault
  pub first : (other : FieldFault) → Named other → PrecedesIn fault other
