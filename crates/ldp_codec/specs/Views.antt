-- What is lent of a PDU: its sender, and its messages as they are spelled.
use Rattle.std.specs.Prelude.{◌≡◌, ◌+◌, ◌%◌, ◌^◌, ◌++◌, ℕ, zero, suc, List, [], ◌∷◌, length, take, drop, flat_map, Option, Some, None}
use Rattle.std.specs.List.{AllByRecursion}
use Rattle.ldp_grammar.specs.declared.ldp_id.LdpId.{LdpId}
use Rattle.ldp_grammar.specs.declared.message_kind.MessageKind.{MessageKind}
use Rattle.ldp_grammar.specs.declared.pdu.Pdu.{Pdu}
use Rattle.ldp_grammar.specs.Octets.{two_at, four_at}
use Rattle.ldp_grammar.specs.Rows.{Row, row_of, kind_of}
use Rattle.ldp_grammar.specs.Spells.{Spelling, Spells, spell_message, IsSpelling, StandInOrder}
use Rattle.ldp_grammar.specs.Tlvs.{Tlv, IsJoined, IsFaultless}

-- the octets behind a Message ID are TLVs without fault in a message with this row
pub record AreSound (row : Row) (body : List ℕ) : Type 0 where
  pub tlvs : List Tlv
  pub joined : IsJoined body tlvs
  pub faultless : IsFaultless row body tlvs

-- those of a message that is not known are not looked at
abbrev pub IsSoundAs : Option MessageKind → List ℕ → Type 0
IsSoundAs (Some kind) body = AreSound (row_of kind) body
IsSoundAs None body = Unit {0}

abbrev pub IsSoundSpelling : Spelling → Type 0
IsSoundSpelling s = IsSoundAs (kind_of (s.word % 2 ^ 15)) s.body

-- a message without fault stands in front, and takes so many octets
pub record IsMessagePassed (rest : List ℕ) (size : ℕ) : Type 0 where
  pub spelling : Spelling
  pub more : List ℕ
  pub split : rest ≡ spell_message spelling ++ more
  pub is_message : IsSpelling spelling
  pub sound : IsSoundSpelling spelling
  pub len : size ≡ 8 + length spelling.body

-- the octets are these messages without fault, one after another
pub record ArePassed (body : List ℕ) (spellings : List Spelling) : Type 0 where
  pub spelled : body ≡ flat_map spell_message spellings
  pub fit : AllByRecursion IsSpelling spellings
  pub sound : AllByRecursion IsSoundSpelling spellings

-- the octets are so many messages without fault
pub record AreCounted (body : List ℕ) (count : ℕ) : Type 0 where
  pub spellings : List Spelling
  pub passed : ArePassed body spellings
  pub is : count ≡ length spellings

-- the message that octets begin with
abbrev pub first_spelling : List ℕ → Spelling
first_spelling octets = record { word = two_at 0 octets; id = four_at 4 octets; body = drop 8 (take (4 + two_at 2 octets) octets) }

-- the messages that octets are, one after another, as their Message Lengths tell; at most so many
unfoldable pub spellings_in : ℕ → List ℕ → List Spelling
spellings_in zero octets = []
spellings_in (suc most) [] = []
spellings_in (suc most) (octet ∷ octets) = first_spelling (octet ∷ octets) ∷ spellings_in most (drop (4 + two_at 2 (octet ∷ octets)) (octet ∷ octets))

abbrev pub spellings_of : List ℕ → List Spelling
spellings_of octets = spellings_in (length octets) octets

-- what contracts see of a PDU that is lent
pub record SeenPdu : Type 0 where
  pub id : LdpId
  pub spellings : List Spelling

-- the octets spell a PDU whose PDU Length is at most the maximum, and this is seen of it
pub record IsViewOf (bytes : List ℕ) (max : ℕ) (seen : SeenPdu) : Type 0 where
  pub pdu : Pdu
  pub spells : Spells bytes max pdu
  pub id : seen.id ≡ pdu.id
  pub spellings : seen.spellings ≡ spells.spellings

-- the octets are not empty, and this is the message that they begin with, behind which these stand
pub record IsFirstOf (octets : List ℕ) (message : Spelling) (rest : List ℕ) : Type 0 where
  pub is : spellings_of octets ≡ message ∷ spellings_of rest
  pub passed : ArePassed rest (spellings_of rest)

-- this is the PDU of which this is seen
pub record IsPduOf (seen : SeenPdu) (pdu : Pdu) : Type 0 where
  pub id : pdu.id ≡ seen.id
  pub stand : StandInOrder seen.spellings pdu.messages
