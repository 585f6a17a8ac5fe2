-- TLVs one after another (RFC 5036 section 3.3).
use Rattle.std.specs.Prelude.{◌≡◌, ◌<◌, ◌≤◌, ◌+◌, ◌==◌, ◌&&◌, ◌^◌, ◌%◌, ◌++◌, ◌⊎◌, not, ℕ, Bool, true, false, List, [], ◌∷◌, length, flat_map, Option, Some, None, if◌then◌else◌}
use Rattle.std.specs.List.{AllByRecursion}
use Rattle.std.specs.Option.{option_or}
use Rattle.net_values.specs.Label.{IsLabel}
use Rattle.net_values.specs.declared.field.Field.{Field}
use Rattle.net_values.specs.declared.field.Field.TheVariants as field
use Rattle.pw_tlvs.specs.declared.fec_value.FecValue.{FecValue}
use Rattle.pw_tlvs.specs.declared.fec_value.FecValue.TheVariants.{Pw, Foreign}
use Rattle.pw_tlvs.specs.declared.point.Point.{Point}
use Rattle.pw_tlvs.specs.Fec.{IsFecValue}
use Rattle.pw_tlvs.specs.Point.{IsPoint}
use Rattle.ldp_grammar.specs.declared.message_kind.MessageKind.{MessageKind}
use Rattle.ldp_grammar.specs.declared.message_kind.MessageKind.TheVariants.{LabelMapping}
use Rattle.ldp_grammar.specs.declared.tlv_part.TlvPart.{TlvPart}
use Rattle.ldp_grammar.specs.declared.tlv_part.TlvPart.TheVariants.{Unknown, Needed, Further, PassedOver}
use Rattle.ldp_grammar.specs.declared.why.Why.{Why}
use Rattle.ldp_grammar.specs.declared.why.Why.TheVariants.{UnknownTlv, Missing, UnknownFec}
use Rattle.ldp_grammar.specs.Octets.{two, four_at, bit}
use Rattle.ldp_grammar.specs.Rows.{Row, fec, part_of, row_of}
use Rattle.ldp_grammar.specs.Layouts.{Layout, CountedOctets, FamilyAddresses, MacAddresses, FecElement, LabelNumber, PointParts, FreeOctets, field_of, fits, layout_of, most, listed}

-- a TLV by the word with U bit, F bit and type, and by its value
pub record Tlv : Type 0 where
  pub word : ℕ
  pub value : List ℕ

-- the type in the word of a TLV, without U bit and F bit (RFC 5036 section 3.3)
abbrev pub type_in : ℕ → ℕ
type_in word = word % 0x4000

-- the octets of a TLV
abbrev pub spell_tlv : Tlv → List ℕ
spell_tlv t = two t.word ++ two (length t.value) ++ t.value

-- the parts of a TLV fit their fields (RFC 5036 section 3.3)
abbrev pub IsTlv : Tlv → Type 0
IsTlv t = (t.word < 2 ^ 16) × (length t.value < 2 ^ 16)

-- the octets are these TLVs, joined
pub record IsJoined (octets : List ℕ) (tlvs : List Tlv) : Type 0 where
  pub spelled : octets ≡ flat_map spell_tlv tlvs
  pub fit : AllByRecursion IsTlv tlvs

-- how many of the TLVs are of a type
abbrev pub count_of : ℕ → List Tlv → ℕ
count_of kind [] = 0
count_of kind (t ∷ ts) = if type_in t.word == kind then 1 + count_of kind ts else count_of kind ts

-- the value of the first TLV of a type
abbrev pub value_of : ℕ → List Tlv → Option (List ℕ)
value_of kind [] = None
value_of kind (t ∷ ts) = if type_in t.word == kind then Some t.value else value_of kind ts

-- the values of the TLVs of a type, in order
abbrev pub values_of : ℕ → List Tlv → List (List ℕ)
values_of kind [] = []
values_of kind (t ∷ ts) = if type_in t.word == kind then t.value ∷ values_of kind ts else values_of kind ts

-- by the structure of the TLVs alone, this is the value of the first TLV of the type
pub record StandsFirst (kind : ℕ) (octets value : List ℕ) : Type 0 where
  pub before : List Tlv
  pub tlv : Tlv
  pub more : List ℕ
  pub split : octets ≡ flat_map spell_tlv before ++ (spell_tlv tlv ++ more)
  pub items : AllByRecursion IsTlv before
  pub is_tlv : IsTlv tlv
  pub none_before : count_of kind before ≡ 0
  pub is_kind : type_in tlv.word ≡ kind
  pub is : value ≡ tlv.value

-- the first FEC TLV in a message's octets is no single PWid element
pub record IsForeign (body : List ℕ) : Type 0 where
  pub value : List ℕ
  pub first : ℕ
  pub stands : StandsFirst fec body value
  pub foreign : IsFecValue value (Foreign first)

-- the value is that of a FEC TLV (RFC 8077 section 6.1)
pub record IsFec (value : List ℕ) : Type 0 where
  pub told : FecValue
  pub is : IsFecValue value told

-- the value is that of a Switching Point PE TLV (RFC 6073 section 7.4)
pub record IsSwitchingPoint (value : List ℕ) : Type 0 where
  pub point : Point
  pub is : IsPoint value point

-- What a value of the right Length holds is in order. In a message with these octets whose first FEC is no single PWid
-- element a label is not looked at.
abbrev pub HasContentAs : List ℕ → Layout → List ℕ → Type 0
HasContentAs body (CountedOctets count) value = Unit {0}
HasContentAs body FamilyAddresses value = Unit {0}
HasContentAs body MacAddresses value = Unit {0}
HasContentAs body FecElement value = IsFec value
HasContentAs body LabelNumber value = IsForeign body ⊎ IsLabel (four_at 0 value)
HasContentAs body PointParts value = IsSwitchingPoint value
HasContentAs body FreeOctets value = Unit {0}

abbrev pub HasContent : List ℕ → Field → List ℕ → Type 0
HasContent body f value = HasContentAs body (layout_of f) value

-- a TLV that the row lists, in a message with these octets, has a value that fits
abbrev pub HasValue : List ℕ → Option Field → List ℕ → Type 0
HasValue body (Some field) value = (fits field value ≡ true) × HasContent body field value
HasValue body None value = Unit {0}

-- the value of the TLV fits in a message with this row and these octets
abbrev pub IsFitting : Row → List ℕ → Tlv → Type 0
IsFitting row body t = HasValue body (listed row (type_in t.word)) t.value

-- a TLV that the row lists stands no more often than it may
abbrev pub KeepsTo : Option Field → ℕ → Type 0
KeepsTo (Some field) count = count ≤ most field
KeepsTo None count = Unit {0}

-- one more may come after this many
abbrev pub MayComeAgain : Option Field → ℕ → Type 0
MayComeAgain (Some field) count = count < most field
MayComeAgain None count = Unit {0}

-- the TLVs of a message with this row and these octets are without fault
pub record IsFaultless (row : Row) (body : List ℕ) (tlvs : List Tlv) : Type 0 where
  pub values : AllByRecursion (IsFitting row body) tlvs
  pub counts : (kind : ℕ) → KeepsTo (listed row kind) (count_of kind tlvs)

-- the type in the word of a TLV that is this part of its message, where it is unknown and has U = 0
abbrev pub unknown_as : TlvPart → ℕ → Option ℕ
unknown_as Unknown word = if bit 15 word then None else Some (type_in word)
unknown_as Needed word = None
unknown_as Further word = None
unknown_as PassedOver word = None

-- the same in a message with this row
abbrev pub unknown_in : Row → ℕ → Option ℕ
unknown_in row word = unknown_as (part_of row (type_in word)) word

-- the type of the first TLV that is unknown and has U = 0
abbrev pub first_unknown : Row → List Tlv → Option ℕ
first_unknown row [] = None
first_unknown row (t ∷ ts) = option_or (unknown_in row t.word) (first_unknown row ts)

-- the first TLV of these types that is absent
abbrev pub first_absent : List ℕ → List Tlv → Option Field
first_absent [] ts = None
first_absent (kind ∷ kinds) ts = if count_of kind ts == 0 then field_of kind else first_absent kinds ts

-- whether there are TLVs of all these types
abbrev pub all_there : List ℕ → List Tlv → Bool
all_there [] ts = true
all_there (kind ∷ kinds) ts = not (count_of kind ts == 0) && all_there kinds ts

-- whether there are types that may stand instead, and TLVs of all of them
abbrev pub stands_instead : List ℕ → List Tlv → Bool
stands_instead [] ts = false
stands_instead (kind ∷ kinds) ts = all_there (kind ∷ kinds) ts

-- the first TLV that is missing: the first needed one that is absent, unless others stand instead
abbrev pub missing : Row → List Tlv → Option Field
missing row ts = if stands_instead row.instead ts then None else first_absent row.needed ts

-- a value, where its TLV is listed
abbrev pub where_listed : Option Field → Option (List ℕ) → Option (List ℕ)
where_listed None value = None
where_listed (Some field) value = value

-- the value of the FEC TLV of a message that lists one
abbrev pub fec_value : Row → List Tlv → Option (List ℕ)
fec_value row ts = where_listed (listed row fec) (value_of fec ts)

-- The field has what the TLV of the type stands for, and nothing where there is none.
abbrev pub OfBoth : {A : Type 0} → Option (List ℕ) → Option A → (List ℕ → A → Type 0) → Type 0
OfBoth None None P = Unit {0}
OfBoth (Some value) (Some x) P = P value x
OfBoth None (Some x) P = ⊥
OfBoth (Some value) None P = ⊥

-- a mapping needs a PW ID
abbrev pub needs_pw_id : MessageKind → Option ℕ → Option Why
needs_pw_id LabelMapping None = Some (Missing field.Fec)
needs_pw_id other pw_id = None

-- why a message with this FEC is not processed
abbrev pub fec_reason : MessageKind → Option FecValue → Option Why
fec_reason k (Some (Pw pw)) = needs_pw_id k pw.pw_id
fec_reason k (Some (Foreign first)) = Some (UnknownFec first)
fec_reason k None = None

-- The first reason why a message is not processed: an unknown TLV, one that is missing, or the FEC.
abbrev pub reason_of : Option ℕ → Option Field → Option Why → Option Why
reason_of (Some tlv) absent why = Some (UnknownTlv tlv)
reason_of None (Some field) why = Some (Missing field)
reason_of None None why = why

-- this is the first reason why the message is not processed, or there is none
pub record IsReason (k : MessageKind) (ts : List Tlv) (why : Option Why) : Type 0 where
  pub told : Option FecValue
  pub is_told : OfBoth (fec_value (row_of k) ts) told IsFecValue
  pub is : why ≡ reason_of (first_unknown (row_of k) ts) (missing (row_of k) ts) (fec_reason k told)
