-- Which octets spell a PDU (RFC 5036 sections 3.1 and 3.3 to 3.5, RFC 8077, RFC 4762 section 6.2, RFC 6073).
use Rattle.std.specs.Prelude.{◌≡◌, ◌<◌, ◌≤◌, ◌+◌, ◌^◌, ◌%◌, ◌++◌, ℕ, List, [], ◌∷◌, length, flat_map, Option, Some, None}
use Rattle.std.specs.List.{AllByRecursion}
use Rattle.pw_tlvs.specs.Fec.{IsPwFec}
use Rattle.pw_tlvs.specs.Macs.{AreMacs}
use Rattle.pw_tlvs.specs.Status.{IsPwStatus}
use Rattle.ldp_grammar.specs.declared.message.Message.{Message}
use Rattle.ldp_grammar.specs.declared.message.Message.TheVariants as message
use Rattle.ldp_grammar.specs.declared.message_kind.MessageKind.{MessageKind}
use Rattle.ldp_grammar.specs.declared.message_kind.MessageKind.TheVariants as kind
use Rattle.ldp_grammar.specs.declared.pdu.Pdu.{Pdu}
use Rattle.ldp_grammar.specs.declared.why.Why.{Why}
use Rattle.ldp_grammar.specs.Octets.{two, four, bit}
use Rattle.ldp_grammar.specs.Rows.{fec, address_list, label, status, hello_parameters, transport_address, mac_list, session_parameters, request_id, pw_status, switching_point, kind_of, type_of, row_of}
use Rattle.ldp_grammar.specs.Tlvs.{Tlv, IsJoined, IsFaultless, OfBoth, IsReason, value_of, values_of}
use Rattle.ldp_grammar.specs.Values.{IsStatus, IsHello, IsSession, IsAddresses, IsAddressList, IsTransportAddress, IsNumber, ArePoints}

-- a message by the word with U bit and type, by its Message ID and by the octets behind that
pub record Spelling : Type 0 where
  pub word : ℕ
  pub id : ℕ
  pub body : List ℕ

-- the octets of a message; its Message Length counts the Message ID and what follows
abbrev pub spell_message : Spelling → List ℕ
spell_message m = two m.word ++ two (4 + length m.body) ++ four m.id ++ m.body

-- the parts of a message fit their fields (RFC 5036 section 3.5)
abbrev pub IsSpelling : Spelling → Type 0
IsSpelling m = (m.word < 2 ^ 16) × (4 + length m.body < 2 ^ 16) × (m.id < 2 ^ 32)

-- a TLV of the type is there, and this holds of its value
abbrev pub OfValue : Option (List ℕ) → (List ℕ → Type 0) → Type 0
OfValue None P = ⊥
OfValue (Some value) P = P value

-- a processed message of a kind with this Message ID and these TLVs
abbrev pub Means : MessageKind → ℕ → List Tlv → Message → Type 0
Means kind.Notification id ts (message.Notification number code state pw) =
    (number ≡ id) × OfValue (value_of status ts) (λ v. IsStatus v code)
    × OfBoth (value_of pw_status ts) state IsPwStatus × OfBoth (value_of fec ts) pw IsPwFec
Means kind.Hello id ts (message.Hello number hold targeted request transport) =
    (number ≡ id) × OfValue (value_of hello_parameters ts) (λ v. IsHello v hold targeted request)
    × OfBoth (value_of transport_address ts) transport IsTransportAddress
Means kind.Initialization id ts (message.Initialization number params) = (number ≡ id) × OfValue (value_of session_parameters ts) (λ v. IsSession v params)
Means kind.KeepAlive id ts (message.KeepAlive number) = number ≡ id
Means kind.Address id ts (message.Address number family octets) = (number ≡ id) × OfValue (value_of address_list ts) (λ v. IsAddresses v family octets)
Means kind.AddressWithdraw id ts (message.AddressWithdraw number addresses pw macs) =
    (number ≡ id) × OfBoth (value_of address_list ts) addresses IsAddressList
    × OfBoth (value_of fec ts) pw IsPwFec × OfBoth (value_of mac_list ts) macs AreMacs
Means kind.LabelMapping id ts (message.LabelMapping number pw given state points) =
    (number ≡ id) × OfValue (value_of fec ts) (λ v. IsPwFec v pw) × OfValue (value_of label ts) (λ v. IsNumber v given)
    × OfBoth (value_of pw_status ts) state IsPwStatus × ArePoints (values_of switching_point ts) points
Means kind.LabelRequest id ts (message.LabelRequest number pw) = (number ≡ id) × OfValue (value_of fec ts) (λ v. IsPwFec v pw)
Means kind.LabelWithdraw id ts (message.LabelWithdraw number pw given) =
    (number ≡ id) × OfValue (value_of fec ts) (λ v. IsPwFec v pw) × OfBoth (value_of label ts) given IsNumber
Means kind.LabelRelease id ts (message.LabelRelease number pw given) =
    (number ≡ id) × OfValue (value_of fec ts) (λ v. IsPwFec v pw) × OfBoth (value_of label ts) given IsNumber
Means kind.LabelAbort id ts (message.LabelAbort number pw request) =
    (number ≡ id) × OfValue (value_of fec ts) (λ v. IsPwFec v pw) × OfValue (value_of request_id ts) (λ v. IsNumber v request)
Means other id ts m = ⊥

-- a message of a kind: processed, or not processed for the first reason that holds
abbrev pub Tells : Option Why → MessageKind → ℕ → List Tlv → Message → Type 0
Tells None kind id ts m = Means kind id ts m
Tells (Some why) kind id ts m = m ≡ message.Unprocessed id (type_of kind) why

-- the octets behind a Message ID are TLVs without fault, in any order, and the message is what they tell
pub record IsRead (kind : MessageKind) (id : ℕ) (body : List ℕ) (m : Message) : Type 0 where
  pub tlvs : List Tlv
  pub joined : IsJoined body tlvs
  pub faultless : IsFaultless (row_of kind) body tlvs
  pub why : Option Why
  pub reason : IsReason kind tlvs why
  pub tells : Tells why kind id tlvs m

-- a message of a known type is read; the parameters of another one are not looked at
abbrev pub StandsAs : Option MessageKind → Spelling → Message → Type 0
StandsAs (Some kind) s m = IsRead kind s.id s.body m
StandsAs None s m = m ≡ message.Other s.id (bit 15 s.word) (s.word % 2 ^ 15)

abbrev pub StandsFor : Spelling → Message → Type 0
StandsFor s m = StandsAs (kind_of (s.word % 2 ^ 15)) s m

-- each spelling stands for the message at its place
abbrev pub StandInOrder : List Spelling → List Message → Type 0
StandInOrder [] [] = Unit {0}
StandInOrder (s ∷ ss) (m ∷ ms) = StandsFor s m × StandInOrder ss ms
StandInOrder [] (m ∷ ms) = ⊥
StandInOrder (s ∷ ss) [] = ⊥

-- The octets of a PDU with this sender and these octets of messages: version 1, and a PDU Length that counts what
-- follows it, at least 14 and at most the maximum.
pub record IsFramed (bytes : List ℕ) (max : ℕ) (sender body : List ℕ) : Type 0 where
  pub split : bytes ≡ two 1 ++ two (6 + length body) ++ sender ++ body
  pub identifier : length sender ≡ 6
  pub least : 14 ≤ 6 + length body
  pub most : 6 + length body ≤ max

-- the octets spell the PDU, whose PDU Length is at most this maximum
pub record Spells (bytes : List ℕ) (max : ℕ) (pdu : Pdu) : Type 0 where
  pub spellings : List Spelling
  pub framed : IsFramed bytes max (pdu.id.router.0 ++ two pdu.id.space) (flat_map spell_message spellings)
  pub router : length pdu.id.router.0 ≡ 4
  pub space : pdu.id.space < 2 ^ 16
  pub fit : AllByRecursion IsSpelling spellings
  pub stand : StandInOrder spellings pdu.messages
