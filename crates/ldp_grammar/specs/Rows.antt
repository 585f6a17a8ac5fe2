-- The messages that are known, and the TLVs that each may have (RFC 5036 section 3.5, RFC 8077 sections 6 and 7, RFC 4762
-- section 6.2, RFC 6073 section 7.4).
use Rattle.std.specs.Prelude.{◌==◌, ◌||◌, ℕ, Bool, true, false, List, [], ◌∷◌, Option, Some, None, if◌then◌else◌}
use Rattle.ldp_grammar.specs.declared.message_kind.MessageKind.{MessageKind}
use Rattle.ldp_grammar.specs.declared.message_kind.MessageKind.TheVariants.{Notification, Hello, Initialization, KeepAlive, Address, AddressWithdraw, LabelMapping, LabelRequest, LabelWithdraw, LabelRelease, LabelAbort}
use Rattle.ldp_grammar.specs.declared.tlv_part.TlvPart.{TlvPart}
use Rattle.ldp_grammar.specs.declared.tlv_part.TlvPart.TheVariants.{Needed, Further, PassedOver, Unknown}

-- the type of a message
abbrev pub type_of : MessageKind → ℕ
type_of Notification = 0x0001
type_of Hello = 0x0100
type_of Initialization = 0x0200
type_of KeepAlive = 0x0201
type_of Address = 0x0300
type_of AddressWithdraw = 0x0301
type_of LabelMapping = 0x0400
type_of LabelRequest = 0x0401
type_of LabelWithdraw = 0x0402
type_of LabelRelease = 0x0403
type_of LabelAbort = 0x0404

-- the message of a type
abbrev pub kind_of : ℕ → Option MessageKind
kind_of number =
    if number == type_of Notification then Some Notification
    else if number == type_of Hello then Some Hello
    else if number == type_of Initialization then Some Initialization
    else if number == type_of KeepAlive then Some KeepAlive
    else if number == type_of Address then Some Address
    else if number == type_of AddressWithdraw then Some AddressWithdraw
    else if number == type_of LabelMapping then Some LabelMapping
    else if number == type_of LabelRequest then Some LabelRequest
    else if number == type_of LabelWithdraw then Some LabelWithdraw
    else if number == type_of LabelRelease then Some LabelRelease
    else if number == type_of LabelAbort then Some LabelAbort
    else None

-- Types of TLVs that are read.

-- the type of a FEC TLV (RFC 5036 section 3.4.1)
abbrev pub fec : ℕ
fec = 0x0100

-- the type of an Address List TLV (RFC 5036 section 3.4.3)
abbrev pub address_list : ℕ
address_list = 0x0101

-- the type of a Generic Label TLV (RFC 5036 section 3.4.2.1)
abbrev pub label : ℕ
label = 0x0200

-- the type of a Status TLV (RFC 5036 section 3.4.6)
abbrev pub status : ℕ
status = 0x0300

-- the type of a Common Hello Parameters TLV (RFC 5036 section 3.5.2)
abbrev pub hello_parameters : ℕ
hello_parameters = 0x0400

-- the type of an IPv4 Transport Address TLV (RFC 5036 section 3.5.2)
abbrev pub transport_address : ℕ
transport_address = 0x0401

-- the type of a MAC List TLV (RFC 4762 section 6.2)
abbrev pub mac_list : ℕ
mac_list = 0x0404

-- the type of a Common Session Parameters TLV (RFC 5036 section 3.5.3)
abbrev pub session_parameters : ℕ
session_parameters = 0x0500

-- the type of a Label Request Message ID TLV (RFC 5036 section 3.5.9)
abbrev pub request_id : ℕ
request_id = 0x0600

-- the type of a PW Status TLV (RFC 8077 section 6.3.2)
abbrev pub pw_status : ℕ
pw_status = 0x096A

-- the type of a Switching Point PE TLV (RFC 6073 section 7.4)
abbrev pub switching_point : ℕ
switching_point = 0x096D

-- Types of TLVs of other features, which some messages may have and which are passed over.

-- the type of a Hop Count TLV (RFC 5036 section 3.4.4)
abbrev pub hop_count : ℕ
hop_count = 0x0103

-- the type of a Path Vector TLV (RFC 5036 section 3.4.5)
abbrev pub path_vector : ℕ
path_vector = 0x0104

-- the type of an Extended Status TLV (RFC 5036 section 3.5.1)
abbrev pub extended_status : ℕ
extended_status = 0x0301

-- the type of a Returned PDU TLV (RFC 5036 section 3.5.1)
abbrev pub returned_pdu : ℕ
returned_pdu = 0x0302

-- the type of a Returned Message TLV (RFC 5036 section 3.5.1)
abbrev pub returned_message : ℕ
returned_message = 0x0303

-- the type of a Configuration Sequence Number TLV (RFC 5036 section 3.5.2)
abbrev pub configuration_number : ℕ
configuration_number = 0x0402

-- The row of a message: the types of the TLVs that it needs, in the order in which they are written, of those that all
-- together may stand instead of the needed ones, of those that it may have, also in that order, and of those that are
-- passed over; in the last case also whether all others are.
pub record Row : Type 0 where
  pub needed : List ℕ
  pub instead : List ℕ
  pub further : List ℕ
  pub passed : List ℕ
  pub passes_rest : Bool

-- the row of each message
abbrev pub row_of : MessageKind → Row
row_of Notification = record { needed = status ∷ []; instead = []; further = pw_status ∷ fec ∷ []; passed = extended_status ∷ returned_pdu ∷ returned_message ∷ []; passes_rest = false }
row_of Hello = record { needed = hello_parameters ∷ []; instead = []; further = transport_address ∷ []; passed = configuration_number ∷ []; passes_rest = false }
row_of Initialization = record { needed = session_parameters ∷ []; instead = []; further = []; passed = []; passes_rest = true }
row_of KeepAlive = record { needed = []; instead = []; further = []; passed = []; passes_rest = false }
row_of Address = record { needed = address_list ∷ []; instead = []; further = []; passed = []; passes_rest = false }
row_of AddressWithdraw = record { needed = address_list ∷ []; instead = fec ∷ mac_list ∷ []; further = fec ∷ mac_list ∷ []; passed = []; passes_rest = false }
row_of LabelMapping = record { needed = fec ∷ label ∷ []; instead = []; further = pw_status ∷ switching_point ∷ []; passed = hop_count ∷ path_vector ∷ request_id ∷ []; passes_rest = false }
row_of LabelRequest = record { needed = fec ∷ []; instead = []; further = []; passed = hop_count ∷ path_vector ∷ []; passes_rest = false }
row_of LabelWithdraw = record { needed = fec ∷ []; instead = []; further = label ∷ []; passed = []; passes_rest = false }
row_of LabelRelease = record { needed = fec ∷ []; instead = []; further = label ∷ status ∷ []; passed = []; passes_rest = false }
row_of LabelAbort = record { needed = fec ∷ request_id ∷ []; instead = []; further = []; passed = []; passes_rest = false }

-- the number is in the list
abbrev pub is_in : ℕ → List ℕ → Bool
is_in n [] = false
is_in n (x ∷ xs) = n == x || is_in n xs

-- what a TLV of this type is to a message with this row
abbrev pub part_of : Row → ℕ → TlvPart
part_of row tlv =
    if is_in tlv row.needed then Needed
    else if is_in tlv row.further then Further
    else if row.passes_rest || is_in tlv row.passed then PassedOver
    else Unknown
