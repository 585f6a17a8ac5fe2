-- The first fault of octets that spell no PDU: of all that can be named the one of least place, and of two at one octet
-- the one of least rank.
use Rattle.std.specs.Prelude.{◌≡◌, ◌≢◌, ◌<◌, ◌≤◌, ◌+◌, ◌^◌, ◌%◌, ◌++◌, ◌⊎◌, ℕ, false, List, length, flat_map, Some}
use Rattle.std.specs.List.{AllByRecursion}
use Rattle.net_values.specs.declared.field.Field.{Field}
use Rattle.net_values.specs.declared.field.Field.TheVariants as field
use Rattle.net_values.specs.Label.{IsLabel}
use Rattle.pw_tlvs.specs.declared.field_fault.FieldFault.{FieldFault}
use Rattle.pw_tlvs.specs.declared.field_fault.FieldFault.TheVariants.{Size, Value, Repeated}
use Rattle.pw_tlvs.specs.Faults.{field_rank}
use Rattle.pw_tlvs.specs.Fec.{IsFecFault}
use Rattle.pw_tlvs.specs.Point.{IsPointFault}
use Rattle.ldp_grammar.specs.declared.fault.Fault.{Fault}
use Rattle.ldp_grammar.specs.declared.cause.Cause.{Cause}
use Rattle.ldp_grammar.specs.declared.cause.Cause.TheVariants as cause
use Rattle.ldp_grammar.specs.declared.message_kind.MessageKind.{MessageKind}
use Rattle.ldp_grammar.specs.declared.pdu.Pdu.{Pdu}
use Rattle.ldp_grammar.specs.Octets.{two_at, four_at}
use Rattle.ldp_grammar.specs.Rows.{Row, kind_of, row_of}
use Rattle.ldp_grammar.specs.Layouts.{Layout, CountedOctets, FamilyAddresses, MacAddresses, FecElement, LabelNumber, PointParts, FreeOctets, fits, layout_of, most, listed}
use Rattle.ldp_grammar.specs.Tlvs.{Tlv, type_in, spell_tlv, IsTlv, count_of, IsForeign}
use Rattle.ldp_grammar.specs.Spells.{Spelling, spell_message, IsSpelling, IsFramed, Spells}

-- a number above the rank of every cause that names a field once
abbrev pub beyond_values : ℕ
beyond_values = 32

-- the causes in the order in which their rules are stated, and under one cause the fields in their order
abbrev pub rank : Cause → ℕ
rank cause.Version = 0
rank cause.PduLength = 1
rank cause.MessageLength = 2
rank cause.TlvLength = 3
rank (cause.TlvValue field) = 4 + field_rank field
rank (cause.Repeated field) = beyond_values + field_rank field

-- the first fault comes no later than the second
abbrev pub Precedes : Fault → Fault → Type 0
Precedes f g = (f.place < g.place) ⊎ ((f.place ≡ g.place) × (rank f.cause ≤ rank g.cause))

-- of the faults that are named, this one comes first
pub record IsFirst (Names : Fault → Type 0) (fault : Fault) : Type 0 where
  pub named : Names fault
  pub first : (other : Fault) → Names other → Precedes fault other

-- a fault in octets that stand behind others
abbrev pub moved : ℕ → Fault → Fault
moved count f = record { place = count + f.place; cause = f.cause }

-- A fault is named behind items that stand one after another: `Here` says which fault is named where an item should
-- begin, by the items before it and the octets from there.
pub record IsNamedIn {A : Type 0} (spelled : A → List ℕ) (IsItem : A → Type 0) (Here : List A → List ℕ → Fault → Type 0) (octets : List ℕ) (fault : Fault) : Type 0 where
  pub before : List A
  pub rest : List ℕ
  pub split : octets ≡ flat_map spelled before ++ rest
  pub items : AllByRecursion IsItem before
  pub here : Fault
  pub names : Here before rest here
  pub is : fault ≡ moved (length (flat_map spelled before)) here

-- Behind these items, of the faults that are named where the next should begin this one comes first, and it lies within
-- the next item.
pub record IsFirstHere {A : Type 0} (spelled : A → List ℕ) (IsItem : A → Type 0) (Here : List A → List ℕ → Fault → Type 0) (before : List A) (rest : List ℕ) (fault : Fault) : Type 0 where
  pub named : Here before rest fault
  pub first : (other : Fault) → Here before rest other → Precedes fault other
  pub inside : (item : A) (more : List ℕ) → IsItem item → rest ≡ spelled item ++ more → fault.place < length (spelled item)

-- no whole TLV stands here: one to three octets are left, or the Length is past the end
abbrev pub CutsTlv : List ℕ → ℕ → Type 0
CutsTlv rest place =
    ((0 < length rest) × (length rest < 4) × (place ≡ 0))
    ⊎ ((4 ≤ length rest) × (length rest < 4 + two_at 2 rest) × (place ≡ 2))

-- the TLV here is listed, and stands before as often as it may
pub record IsRepeated (row : Row) (before : List Tlv) (rest : List ℕ) (field : Field) : Type 0 where
  pub whole : 4 ≤ length rest
  pub is_listed : listed row (type_in (two_at 0 rest)) ≡ Some field
  pub full : most field ≤ count_of (type_in (two_at 0 rest)) before

-- the TLV here is listed, and its Length does not fit
pub record IsMisfit (row : Row) (rest : List ℕ) (field : Field) : Type 0 where
  pub tlv : Tlv
  pub more : List ℕ
  pub split : rest ≡ spell_tlv tlv ++ more
  pub is_tlv : IsTlv tlv
  pub is_listed : listed row (type_in tlv.word) ≡ Some field
  pub misfits : fits field tlv.value ≡ false

-- the fault of the TLV here that its word, its Length and the TLVs before it show
abbrev pub TlvFault : Row → List Tlv → List ℕ → Cause → ℕ → Type 0
TlvFault row before rest cause.TlvLength place = CutsTlv rest place
TlvFault row before rest (cause.Repeated field) place = (place ≡ 0) × IsRepeated row before rest field
TlvFault row before rest (cause.TlvValue field) place = (place ≡ 2) × IsMisfit row rest field
TlvFault row before rest other place = ⊥

-- What can be wrong in a value of the right Length, in a message with these octets: what a FEC or a switching point is at
-- fault with, or a label that is none, which is not looked at where the first FEC is no single PWid element.
abbrev pub ContentFaultAs : List ℕ → Layout → List ℕ → FieldFault → Type 0
ContentFaultAs body (CountedOctets count) value fault = ⊥
ContentFaultAs body FamilyAddresses value fault = ⊥
ContentFaultAs body MacAddresses value fault = ⊥
ContentFaultAs body FecElement value fault = IsFecFault value fault
ContentFaultAs body LabelNumber value fault = (length value ≡ 4) × (IsForeign body → ⊥) × (IsLabel (four_at 0 value) → ⊥) × (fault ≡ Value 0 field.Label)
ContentFaultAs body PointParts value fault = IsPointFault value fault
ContentFaultAs body FreeOctets value fault = ⊥

abbrev pub ContentFault : List ℕ → Field → List ℕ → FieldFault → Type 0
ContentFault body f value = ContentFaultAs body (layout_of f) value

-- the fault of the value of a TLV, counted from the TLV: a wrong size is told at the Length
abbrev pub fault_in : Field → FieldFault → Fault
fault_in field Size = record { place = 2; cause = cause.TlvValue field }
fault_in field (Value at inner) = record { place = 4 + at; cause = cause.TlvValue inner }
fault_in field (Repeated at inner) = record { place = 4 + at; cause = cause.Repeated inner }

-- the TLV here is listed, and the fault is one of its value
pub record IsWrongContent (row : Row) (body rest : List ℕ) (fault : Fault) : Type 0 where
  pub tlv : Tlv
  pub more : List ℕ
  pub split : rest ≡ spell_tlv tlv ++ more
  pub is_tlv : IsTlv tlv
  pub field : Field
  pub is_listed : listed row (type_in tlv.word) ≡ Some field
  pub here : FieldFault
  pub names : ContentFault body field tlv.value here
  pub is : fault ≡ fault_in field here

-- the faults that are named behind some TLVs of a message with this row and these octets
abbrev pub IsTlvFault : Row → List ℕ → List Tlv → List ℕ → Fault → Type 0
IsTlvFault row body before rest f = TlvFault row before rest f.cause f.place ⊎ IsWrongContent row body rest f

-- the first of the faults that are named there
abbrev pub IsFirstTlvFault : Row → List ℕ → List Tlv → List ℕ → Fault → Type 0
IsFirstTlvFault row body = IsFirstHere spell_tlv IsTlv (IsTlvFault row body)

-- the faults of the TLVs of a message with this row
abbrev pub NamesTlvs : Row → List ℕ → Fault → Type 0
NamesTlvs row body = IsNamedIn spell_tlv IsTlv (IsTlvFault row body) body

-- no whole message stands here: one to three octets are left, or the Message Length is below 4 or past the end
abbrev pub CutsMessage : List ℕ → ℕ → Type 0
CutsMessage rest place =
    ((0 < length rest) × (length rest < 4) × (place ≡ 0))
    ⊎ ((4 ≤ length rest) × ((two_at 2 rest < 4) ⊎ (length rest < 4 + two_at 2 rest)) × (place ≡ 2))

-- the fault of the message here that its Message Length shows
abbrev pub LengthFault : List ℕ → Cause → ℕ → Type 0
LengthFault rest cause.MessageLength place = CutsMessage rest place
LengthFault rest other place = ⊥

-- the fault is one of the TLVs of the message here
pub record IsInTlvs (rest : List ℕ) (fault : Fault) : Type 0 where
  pub message : Spelling
  pub more : List ℕ
  pub split : rest ≡ spell_message message ++ more
  pub is_message : IsSpelling message
  pub kind : MessageKind
  pub known : kind_of (message.word % 2 ^ 15) ≡ Some kind
  pub here : Fault
  pub names : NamesTlvs (row_of kind) message.body here
  pub is : fault ≡ moved 8 here

-- the faults that are named behind some messages of a PDU
abbrev pub IsMessageFault : List Spelling → List ℕ → Fault → Type 0
IsMessageFault before rest f = LengthFault rest f.cause f.place ⊎ IsInTlvs rest f

-- the first of the faults that are named there
abbrev pub IsFirstMessageFault : List Spelling → List ℕ → Fault → Type 0
IsFirstMessageFault = IsFirstHere spell_message IsSpelling IsMessageFault

-- the faults of messages one after another
abbrev pub NamesMessages : List ℕ → Fault → Type 0
NamesMessages body = IsNamedIn spell_message IsSpelling IsMessageFault body

-- no PDU Length is there, or it is out of range, or it does not count the octets behind it
abbrev pub IsMiscounted : List ℕ → ℕ → Type 0
IsMiscounted bytes max = (length bytes < 4) ⊎ (two_at 2 bytes < 14) ⊎ (max < two_at 2 bytes) ⊎ (length bytes ≢ 4 + two_at 2 bytes)

-- the faults of a PDU's header
abbrev pub HeaderFault : List ℕ → ℕ → Cause → ℕ → Type 0
HeaderFault bytes max cause.Version place = (place ≡ 0) × (2 ≤ length bytes) × (two_at 0 bytes ≢ 1)
HeaderFault bytes max cause.PduLength place = (place ≡ 2) × IsMiscounted bytes max
HeaderFault bytes max other place = ⊥

-- the fault is one of the messages of a PDU with a right header
pub record IsInMessages (bytes : List ℕ) (max : ℕ) (fault : Fault) : Type 0 where
  pub sender : List ℕ
  pub body : List ℕ
  pub framed : IsFramed bytes max sender body
  pub here : Fault
  pub names : NamesMessages body here
  pub is : fault ≡ moved 10 here

-- the faults of octets that should spell a PDU whose PDU Length is at most this maximum
abbrev pub Names : List ℕ → ℕ → Fault → Type 0
Names bytes max f = HeaderFault bytes max f.cause f.place ⊎ IsInMessages bytes max f

-- the octets spell no PDU whose PDU Length is at most this maximum, and this is their first fault
abbrev pub FirstFault : List ℕ → ℕ → Fault → Type 0
FirstFault bytes max = IsFirst (Names bytes max)

-- octets spell one PDU at most, have one first fault at most, and never both
pub record OneReading : Type 0 where
  pub one_pdu : (bytes : List ℕ) (max : ℕ) (p q : Pdu) → Spells bytes max p → Spells bytes max q → p ≡ q
  pub one_fault : (bytes : List ℕ) (max : ℕ) (f g : Fault) → FirstFault bytes max f → FirstFault bytes max g → f ≡ g
  pub not_both : (bytes : List ℕ) (max : ℕ) (p : Pdu) (f : Fault) → max ≤ 4096 → Spells bytes max p → FirstFault bytes max f → ⊥
