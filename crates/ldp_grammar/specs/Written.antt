-- The one spelling that an edge writes: the TLVs in the order of the message's row, with F = 0, and with U = 0 but for PW
-- Status, MAC List and Switching Point PE, which a receiver may ignore (RFC 5036 sections 3.1 to 3.5, RFC 8077 section
-- 6.3.2, RFC 4762 section 6.2, RFC 6073 section 7.4). Bits that are ignored are written 0.
use Rattle.std.specs.Prelude.{◌≡◌, ◌≤◌, ◌<◌, ◌+◌, ◌^◌, ◌%◌, ◌==◌, ◌&&◌, ◌++◌, not, nat_lt, is_some, IfSome, ℕ, Bool, true, false, List, [], ◌∷◌, length, flat_map, Option, Some, None, if◌then◌else◌}
use Rattle.std.specs.List.{AllByRecursion}
use Rattle.net_values.specs.Label.{IsLabel}
use Rattle.net_values.specs.declared.addr.Addr.{Addr}
use Rattle.net_values.specs.declared.mac.Mac.{Mac}
use Rattle.pw_tlvs.specs.declared.point.Point.{Point}
use Rattle.pw_tlvs.specs.declared.pw_fec.PwFec.{PwFec}
use Rattle.pw_tlvs.specs.declared.pw_status.PwStatus.{PwStatus}
use Rattle.pw_tlvs.specs.Macs.{mac_octets}
use Rattle.pw_tlvs.specs.Status.{written_status}
use Rattle.pw_tlvs.specs.Written.{written_fec, written_point, writable_fec, IsFecInRange, IsPointInRange}
use Rattle.ldp_grammar.specs.declared.address_list.AddressList.{AddressList}
use Rattle.ldp_grammar.specs.declared.ldp_id.LdpId.{LdpId}
use Rattle.ldp_grammar.specs.declared.message.Message.{Message}
use Rattle.ldp_grammar.specs.declared.message.Message.TheVariants.{Notification, Hello, Initialization, KeepAlive, Address, AddressWithdraw, LabelMapping, LabelRequest, LabelWithdraw, LabelRelease, LabelAbort, Other, Unprocessed}
use Rattle.ldp_grammar.specs.declared.session_params.SessionParams.{SessionParams}
use Rattle.ldp_grammar.specs.declared.status_code.StatusCode.{StatusCode}
use Rattle.ldp_grammar.specs.declared.message_kind.MessageKind.TheVariants as kind
use Rattle.ldp_grammar.specs.Octets.{two, four}
use Rattle.ldp_grammar.specs.Rows.{fec, address_list, label, status, hello_parameters, transport_address, mac_list, session_parameters, request_id, pw_status, switching_point, type_of}
use Rattle.ldp_grammar.specs.Tlvs.{Tlv, spell_tlv}
use Rattle.ldp_grammar.specs.declared.pdu.Pdu.{Pdu}
use Rattle.ldp_grammar.specs.Spells.{Spelling, spell_message, Spells}

-- a bit of the value 2 ^ place
abbrev pub bit_as : ℕ → Bool → ℕ
bit_as place set = if set then 2 ^ place else 0

-- the value of a Status TLV: the E and the F bit, the status code, the Message ID and the type of the message that it is
-- about (RFC 5036 section 3.4.6)
abbrev pub status_octets : StatusCode → List ℕ
status_octets s = four (bit_as 31 s.fatal + bit_as 30 s.forward + s.code) ++ four s.message ++ two s.kind

-- the value of a Common Hello Parameters TLV: the hold time, and the bits T and R (RFC 5036 section 3.5.2)
abbrev pub hello_parameters_octets : ℕ → Bool → Bool → List ℕ
hello_parameters_octets hold targeted request = two hold ++ two (bit_as 15 targeted + bit_as 14 request)

-- an LDP Identifier: the LSR ID and the label space (RFC 5036 section 2.2.2)
abbrev pub id_octets : LdpId → List ℕ
id_octets id = id.router.0 ++ two id.space

-- the value of a Common Session Parameters TLV, with the bits A and D and the path vector limit (RFC 5036 section 3.5.3)
abbrev pub session_octets : SessionParams → List ℕ
session_octets p = two p.version ++ two p.keepalive ++ ((bit_as 7 p.demand + bit_as 6 p.loops) ∷ p.limit ∷ []) ++ two p.max_pdu ++ id_octets p.receiver

-- the value of an Address List TLV: the address family and the addresses (RFC 5036 section 3.4.3)
abbrev pub addresses_octets : ℕ → List ℕ → List ℕ
addresses_octets family octets = two family ++ octets

-- a TLV of a type with U = 0 and F = 0
abbrev pub tlv : ℕ → List ℕ → Tlv
tlv number value = record { word = number; value = value }

-- the same with U = 1, the highest bit
abbrev pub ignorable : ℕ → List ℕ → Tlv
ignorable number value = record { word = 0x8000 + number; value = value }

-- the TLV, with this word and the value that is written so, of a part that a message may lack, where it is told
abbrev pub told_tlvs : {A : Type 0} → ℕ → (A → List ℕ) → Option A → List Tlv
told_tlvs word octets None = []
told_tlvs word octets (Some x) = record { word = word; value = octets x } ∷ []

-- the transport address of a Hello (RFC 5036 section 3.5.2)
abbrev pub transport_tlvs : Option Addr → List Tlv
transport_tlvs address = told_tlvs transport_address (λ a. a.0) address

-- the addresses that are withdrawn (RFC 5036 section 3.5.6)
abbrev pub withdrawn_tlvs : Option AddressList → List Tlv
withdrawn_tlvs addresses = told_tlvs address_list (λ a. addresses_octets a.family a.octets) addresses

-- the FEC (RFC 5036 section 3.4.1, RFC 8077 section 6.1)
abbrev pub fec_tlvs : Option PwFec → List Tlv
fec_tlvs pw = told_tlvs fec written_fec pw

-- the label (RFC 5036 section 3.4.2.1)
abbrev pub label_tlvs : Option ℕ → List Tlv
label_tlvs given = told_tlvs label four given

-- the PW status, with U = 1 (RFC 8077 section 6.3.2)
abbrev pub status_tlvs : Option PwStatus → List Tlv
status_tlvs state = told_tlvs (0x8000 + pw_status) written_status state

-- the MAC List, with U = 1 (RFC 4762 section 6.2)
abbrev pub mac_tlvs : Option (List Mac) → List Tlv
mac_tlvs macs = told_tlvs (0x8000 + mac_list) mac_octets macs

-- a Switching Point PE TLV for each switching point, in order (RFC 6073 section 7.4)
abbrev pub point_tlvs : List Point → List Tlv
point_tlvs [] = []
point_tlvs (point ∷ points) = ignorable switching_point (written_point point) ∷ point_tlvs points

-- the TLVs of a message in the order of its row (RFC 5036 section 3.5)
abbrev pub written_tlvs : Message → List Tlv
written_tlvs (Notification id code state pw) = tlv status (status_octets code) ∷ (status_tlvs state ++ fec_tlvs pw)
written_tlvs (Hello id hold targeted request transport) = tlv hello_parameters (hello_parameters_octets hold targeted request) ∷ transport_tlvs transport
written_tlvs (Initialization id params) = tlv session_parameters (session_octets params) ∷ []
written_tlvs (KeepAlive id) = []
written_tlvs (Address id family octets) = tlv address_list (addresses_octets family octets) ∷ []
written_tlvs (AddressWithdraw id addresses pw macs) = withdrawn_tlvs addresses ++ (fec_tlvs pw ++ mac_tlvs macs)
written_tlvs (LabelMapping id pw given state points) = tlv fec (written_fec pw) ∷ tlv label (four given) ∷ (status_tlvs state ++ point_tlvs points)
written_tlvs (LabelRequest id pw) = tlv fec (written_fec pw) ∷ []
written_tlvs (LabelWithdraw id pw given) = tlv fec (written_fec pw) ∷ label_tlvs given
written_tlvs (LabelRelease id pw given) = tlv fec (written_fec pw) ∷ label_tlvs given
written_tlvs (LabelAbort id pw request) = tlv fec (written_fec pw) ∷ tlv request_id (four request) ∷ []
written_tlvs (Other id u number) = []
written_tlvs (Unprocessed id number why) = []

-- the type of a message (RFC 5036 section 3.7)
abbrev pub written_type : Message → ℕ
written_type (Notification id code state pw) = type_of kind.Notification
written_type (Hello id hold targeted request transport) = type_of kind.Hello
written_type (Initialization id params) = type_of kind.Initialization
written_type (KeepAlive id) = type_of kind.KeepAlive
written_type (Address id family octets) = type_of kind.Address
written_type (AddressWithdraw id addresses pw macs) = type_of kind.AddressWithdraw
written_type (LabelMapping id pw given state points) = type_of kind.LabelMapping
written_type (LabelRequest id pw) = type_of kind.LabelRequest
written_type (LabelWithdraw id pw given) = type_of kind.LabelWithdraw
written_type (LabelRelease id pw given) = type_of kind.LabelRelease
written_type (LabelAbort id pw request) = type_of kind.LabelAbort
written_type (Other id u number) = number
written_type (Unprocessed id number why) = number

-- the Message ID
abbrev pub id_of : Message → ℕ
id_of (Notification id code state pw) = id
id_of (Hello id hold targeted request transport) = id
id_of (Initialization id params) = id
id_of (KeepAlive id) = id
id_of (Address id family octets) = id
id_of (AddressWithdraw id addresses pw macs) = id
id_of (LabelMapping id pw given state points) = id
id_of (LabelRequest id pw) = id
id_of (LabelWithdraw id pw given) = id
id_of (LabelRelease id pw given) = id
id_of (LabelAbort id pw request) = id
id_of (Other id u number) = id
id_of (Unprocessed id number why) = id

-- the header of a message and the octets of its TLVs (RFC 5036 section 3.5)
abbrev pub written_spelling : Message → Spelling
written_spelling m = record { word = written_type m; id = id_of m; body = flat_map spell_tlv (written_tlvs m) }

-- the octets of a message
abbrev pub message_octets : Message → List ℕ
message_octets m = spell_message (written_spelling m)

-- the header of a PDU with so many octets of messages: the version, the PDU Length, which counts what follows it, and the LDP
-- Identifier (RFC 5036 section 3.1)
abbrev pub header_octets : ℕ → LdpId → List ℕ
header_octets size id = two 1 ++ two (6 + size) ++ id_octets id

-- the octets of a PDU with this message alone
abbrev pub written : Message → LdpId → List ℕ
written m id = header_octets (length (message_octets m)) id ++ message_octets m

-- the octets of addresses of this family are whole addresses, of four octets each for IPv4; those of other families are not
-- looked at
abbrev pub are_whole : ℕ → List ℕ → Bool
are_whole family octets = not (family == 1 && not (length octets % 4 == 0))

-- a FEC that is told can be written
abbrev pub writable_fecs : Option PwFec → Bool
writable_fecs None = true
writable_fecs (Some pw) = writable_fec pw

-- what is withdrawn: whole addresses, or what was learned on a pseudowire
abbrev pub is_withdrawal : Option AddressList → Option PwFec → Option (List Mac) → Bool
is_withdrawal (Some a) pw macs = are_whole a.family a.octets
is_withdrawal None pw macs = is_some pw && is_some macs

-- The messages that can be written: not those of unknown types and those that are not processed, none with status data
-- above 30 bits, with a part of an address or with a FEC that cannot be written, no mapping without a PW ID, and no
-- withdrawal without addresses, or without a FEC and a MAC list.
abbrev pub writable : Message → Bool
writable (Notification id code state pw) = nat_lt code.code (2 ^ 30) && writable_fecs pw
writable (Hello id hold targeted request transport) = true
writable (Initialization id params) = true
writable (KeepAlive id) = true
writable (Address id family octets) = are_whole family octets
writable (AddressWithdraw id addresses pw macs) = is_withdrawal addresses pw macs && writable_fecs pw
writable (LabelMapping id pw given state points) = is_some pw.pw_id && writable_fec pw
writable (LabelRequest id pw) = writable_fec pw
writable (LabelWithdraw id pw given) = writable_fec pw
writable (LabelRelease id pw given) = writable_fec pw
writable (LabelAbort id pw request) = writable_fec pw
writable (Other id u number) = false
writable (Unprocessed id number why) = false

-- how many octets a list of addresses has, where there is one
abbrev pub list_length : Option AddressList → ℕ
list_length None = 0
list_length (Some a) = length a.octets

-- how many octets of addresses a message has
abbrev pub address_octets : Message → ℕ
address_octets (Address id family octets) = length octets
address_octets (AddressWithdraw id addresses pw macs) = list_length addresses
address_octets other = 0

-- how many MAC addresses a list has, where there is one
abbrev pub macs_length : Option (List Mac) → ℕ
macs_length None = 0
macs_length (Some macs) = length macs

-- how many MAC addresses a message has
abbrev pub mac_count : Message → ℕ
mac_count (AddressWithdraw id addresses pw macs) = macs_length macs
mac_count other = 0

-- an address that is told has four octets
abbrev pub IsAddress4 : Option Addr → Type 0
IsAddress4 None = Unit {0}
IsAddress4 (Some a) = length a.0 ≡ 4

-- an address family has 16 bits (RFC 5036 section 3.4.3)
abbrev pub HasFamily : Option AddressList → Type 0
HasFamily None = Unit {0}
HasFamily (Some a) = a.family < 2 ^ 16

-- a PW status has 32 bits (RFC 8077 section 6.3.2)
abbrev pub IsState : Option PwStatus → Type 0
IsState None = Unit {0}
IsState (Some state) = state.0 < 2 ^ 32

-- MAC addresses have six octets
abbrev pub AreSixOctets : Option (List Mac) → Type 0
AreSixOctets None = Unit {0}
AreSixOctets (Some macs) = AllByRecursion (λ mac. length mac.0 ≡ 6) macs

-- the parts of an LDP Identifier fit their fields (RFC 5036 section 2.2.2)
pub record IsId (id : LdpId) : Type 0 where
  pub router : length id.router.0 ≡ 4
  pub space : id.space < 2 ^ 16

-- session parameters fit their fields (RFC 5036 section 3.5.3)
pub record AreParams (p : SessionParams) : Type 0 where
  pub version : p.version < 2 ^ 16
  pub keepalive : p.keepalive < 2 ^ 16
  pub limit : p.limit < 2 ^ 8
  pub max_pdu : p.max_pdu < 2 ^ 16
  pub receiver : IsId p.receiver

-- the numbers of a message fit the fields that they are written in, its addresses have four octets, and its MAC addresses
-- six
abbrev pub Fits : Message → Type 0
Fits (Notification id code state pw) = (id < 2 ^ 32) × (code.message < 2 ^ 32) × (code.kind < 2 ^ 16) × IsState state × IfSome pw IsFecInRange
Fits (Hello id hold targeted request transport) = (id < 2 ^ 32) × (hold < 2 ^ 16) × IsAddress4 transport
Fits (Initialization id params) = (id < 2 ^ 32) × AreParams params
Fits (KeepAlive id) = id < 2 ^ 32
Fits (Address id family octets) = (id < 2 ^ 32) × (family < 2 ^ 16)
Fits (AddressWithdraw id addresses pw macs) = (id < 2 ^ 32) × HasFamily addresses × IfSome pw IsFecInRange × AreSixOctets macs
Fits (LabelMapping id pw given state points) =
    (id < 2 ^ 32) × IsFecInRange pw × IsLabel given × IsState state × (length points ≤ 3) × AllByRecursion IsPointInRange points
Fits (LabelRequest id pw) = (id < 2 ^ 32) × IsFecInRange pw
Fits (LabelWithdraw id pw given) = (id < 2 ^ 32) × IsFecInRange pw × IfSome given IsLabel
Fits (LabelRelease id pw given) = (id < 2 ^ 32) × IsFecInRange pw × IfSome given IsLabel
Fits (LabelAbort id pw request) = (id < 2 ^ 32) × IsFecInRange pw × (request < 2 ^ 32)
Fits (Other id u number) = id < 2 ^ 32
Fits (Unprocessed id number why) = id < 2 ^ 32

-- What is written spells the PDU with that message alone, for each maximum that it keeps to; and no spelling of a PDU
-- is the front of another.
pub record WrittenIsRead : Type 0 where
  pub read : (max : ℕ) (m : Message) (id : LdpId) → max ≤ 4096 → writable m ≡ true → Fits m → IsId id → 6 + length (message_octets m) ≤ max → Spells (written m id) max (record { id = id; messages = m ∷ [] })
  pub no_front : (max : ℕ) (p q : Pdu) (bytes more : List ℕ) → max ≤ 4096 → Spells bytes max p → Spells (bytes ++ more) max q → more ≡ []

-- A PDU of one message without addresses, and with few MAC addresses, keeps to every maximum of a session: its PDU Length is at
-- most 256 (RFC 5036 section 3.5.3).
abbrev pub WrittenIsShort : Type 0
WrittenIsShort = (m : Message) → Fits m → address_octets m ≡ 0 → mac_count m ≤ 16 → 6 + length (message_octets m) ≤ 256
