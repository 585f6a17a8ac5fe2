-- The words of a decoded message: its name, its Message ID and its parts (RFC 5036 sections 3.4 and 3.5, RFC 8077
-- section 6, RFC 4762 section 6.2, RFC 6073 section 7.4).
use Rattle.std.specs.Prelude.{◌++◌, codes, length, map, ℕ, Bool, List, [], ◌∷◌, Option, Some, None}
use Rattle.std.specs.Fmt.{decimal}
use Rattle.net_values.specs.declared.addr.Addr.{Addr}
use Rattle.net_values.specs.declared.field.Field.{Field}
use Rattle.net_values.specs.declared.field.Field.TheVariants as field
use Rattle.net_values.specs.declared.mac.Mac.{Mac}
use Rattle.pw_tlvs.specs.declared.if_params.IfParams.{IfParams}
use Rattle.pw_tlvs.specs.declared.point.Point.{Point}
use Rattle.pw_tlvs.specs.declared.pw_fec.PwFec.{PwFec}
use Rattle.pw_tlvs.specs.declared.pw_status.PwStatus.{PwStatus}
use Rattle.ldp_grammar.specs.declared.address_list.AddressList.{AddressList}
use Rattle.ldp_grammar.specs.declared.ldp_id.LdpId.{LdpId}
use Rattle.ldp_grammar.specs.declared.message.Message.{Message}
use Rattle.ldp_grammar.specs.declared.message.Message.TheVariants.{Notification, Hello, Initialization, KeepAlive, Address, AddressWithdraw, LabelMapping, LabelRequest, LabelWithdraw, LabelRelease, LabelAbort, Other, Unprocessed}
use Rattle.ldp_grammar.specs.declared.session_params.SessionParams.{SessionParams}
use Rattle.ldp_grammar.specs.declared.status_code.StatusCode.{StatusCode}
use Rattle.ldp_grammar.specs.declared.why.Why.{Why}
use Rattle.ldp_grammar.specs.declared.why.Why.TheVariants.{UnknownTlv, Missing, UnknownFec}
use Rattle.text_pieces.specs.Pieces.{hex}

-- words behind the first one, with a mark before each
abbrev pub marked : List ℕ → List (List ℕ) → List ℕ
marked mark [] = []
marked mark (word ∷ words) = (mark ++ word) ++ marked mark words

-- words with a mark between each two
abbrev pub parted : List ℕ → List (List ℕ) → List ℕ
parted mark [] = []
parted mark (word ∷ words) = word ++ marked mark words

-- a bit as a digit
abbrev pub flag : Bool → List ℕ
flag Bool.true = codes "1"
flag Bool.false = codes "0"

-- an address as a dotted quad
unfoldable pub dotted : Addr → List ℕ
dotted address = parted (codes ".") (map decimal address.0)

-- the field that a fault or a reason names
abbrev pub field_name : Field → List ℕ
field_name field.Fec = codes "Fec"
field_name field.AddressList = codes "AddressList"
field_name field.Label = codes "Label"
field_name field.Status = codes "Status"
field_name field.Hello = codes "Hello"
field_name field.Transport = codes "Transport"
field_name field.MacList = codes "MacList"
field_name field.Session = codes "Session"
field_name field.RequestId = codes "RequestId"
field_name field.PwStatus = codes "PwStatus"
field_name field.Point = codes "Point"
field_name field.InfoLength = codes "InfoLength"
field_name field.Parameter = codes "Parameter"
field_name field.Mtu = codes "Mtu"
field_name field.Description = codes "Description"
field_name field.Vlan = codes "Vlan"
field_name field.Vccv = codes "Vccv"

-- a status: E bit, F bit, data, and the Message ID and type of the message that it is about
abbrev pub status_word : StatusCode → List ℕ
status_word s = codes "code=" ++ parted (codes "/") (flag s.fatal ∷ flag s.forward ∷ decimal s.code ∷ decimal s.message ∷ decimal s.kind ∷ [])

-- the hold time, the T bit and the R bit of a Hello
abbrev pub hello_word : ℕ → Bool → Bool → List ℕ
hello_word hold targeted request = codes "hold=" ++ parted (codes "/") (decimal hold ∷ flag targeted ∷ flag request ∷ [])

abbrev pub transport_words : Option Addr → List (List ℕ)
transport_words None = []
transport_words (Some address) = (codes "transport=" ++ dotted address) ∷ []

-- an LDP Identifier: the router ID and the label space
abbrev pub id_word : LdpId → List ℕ
id_word id = (dotted id.router ++ codes ":") ++ decimal id.space

-- what an Initialization proposes, in the order of its octets
abbrev pub session_word : SessionParams → List ℕ
session_word p = codes "session=" ++ parted (codes "/")
    (decimal p.version ∷ decimal p.keepalive ∷ flag p.demand ∷ flag p.loops ∷ decimal p.limit ∷ decimal p.max_pdu ∷ id_word p.receiver ∷ [])

-- an address family, and the octets of addresses in hexadecimal
abbrev pub addresses_word : ℕ → List ℕ → List ℕ
addresses_word family octets = codes "addresses=" ++ parted (codes "/") (decimal family ∷ hex octets ∷ [])

abbrev pub withdrawn_words : Option AddressList → List (List ℕ)
withdrawn_words None = []
withdrawn_words (Some list) = addresses_word list.family list.octets ∷ []

-- the PW ID of a FEC element; a star stands for all pseudowires of the group
abbrev pub pw_id_word : Option ℕ → List ℕ
pw_id_word None = codes "*"
pw_id_word (Some pw_id) = decimal pw_id

-- a FEC element: the C bit, the PW type, the group and the PW ID
abbrev pub element_word : PwFec → List ℕ
element_word fec = codes "fec=" ++ parted (codes "/") (flag fec.c ∷ decimal fec.kind ∷ decimal fec.group ∷ pw_id_word fec.pw_id ∷ [])

-- an interface parameter that is a number
abbrev pub parameter_words : List ℕ → Option ℕ → List (List ℕ)
parameter_words name None = []
parameter_words name (Some number) = (name ++ decimal number) ∷ []

-- the octets of a description in hexadecimal; an empty one is none
abbrev pub description_words : List ℕ → List (List ℕ)
description_words [] = []
description_words (octet ∷ octets) = (codes "description=" ++ hex (octet ∷ octets)) ∷ []

-- the bits of the control channel types and of the connectivity verification types
abbrev pub vccv_words : Option (ℕ × ℕ) → List (List ℕ)
vccv_words None = []
vccv_words (Some pair) = (codes "vccv=" ++ parted (codes "/") (decimal pair.0 ∷ decimal pair.1 ∷ [])) ∷ []

-- the interface parameters that are there
abbrev pub params_words : IfParams → List (List ℕ)
params_words p = ((parameter_words (codes "mtu=") p.mtu ++ description_words p.description) ++ parameter_words (codes "vlan=") p.vlan) ++ vccv_words p.vccv

-- a FEC element and its interface parameters
abbrev pub fec_words : PwFec → List (List ℕ)
fec_words fec = element_word fec ∷ params_words fec.params

abbrev pub told_fec_words : Option PwFec → List (List ℕ)
told_fec_words None = []
told_fec_words (Some fec) = fec_words fec

abbrev pub label_word : ℕ → List ℕ
label_word label = codes "label=" ++ decimal label

abbrev pub label_words : Option ℕ → List (List ℕ)
label_words None = []
label_words (Some label) = label_word label ∷ []

-- the bits of a pseudowire's status as a number
abbrev pub pw_status_words : Option PwStatus → List (List ℕ)
pw_status_words None = []
pw_status_words (Some status) = (codes "status=" ++ decimal status.0) ∷ []

-- the octets of MAC addresses in hexadecimal, one address after another
abbrev pub mac_digits : List Mac → List ℕ
mac_digits [] = []
mac_digits (mac ∷ macs) = hex mac.0 ++ mac_digits macs

-- how many MAC addresses, and the addresses
abbrev pub macs_words : Option (List Mac) → List (List ℕ)
macs_words None = []
macs_words (Some macs) = (codes "macs=" ++ parted (codes "/") (decimal (length macs) ∷ mac_digits macs ∷ [])) ∷ []

-- the PW ID and an address of a switching point; a dash for what is absent
abbrev pub segment_word : Option ℕ → List ℕ
segment_word None = codes "-"
segment_word (Some pw_id) = decimal pw_id

abbrev pub end_word : Option Addr → List ℕ
end_word None = codes "-"
end_word (Some address) = dotted address

-- a switching point: the PW ID of the last segment, its own address and the one from which it had the pseudowire
abbrev pub point_word : Point → List ℕ
point_word point = codes "point=" ++ parted (codes "/") (segment_word point.pw_id ∷ end_word point.local ∷ end_word point.remote ∷ [])

-- a word for each switching point
abbrev pub point_words : List Point → List (List ℕ)
point_words points = map point_word points

-- the Message ID of the request that is taken back
abbrev pub request_word : ℕ → List ℕ
request_word request = codes "request=" ++ decimal request

-- the type of a message that is not known or not processed
abbrev pub type_word : ℕ → List ℕ
type_word kind = codes "type=" ++ decimal kind

-- why a message is not processed
abbrev pub why_word : Why → List ℕ
why_word (UnknownTlv kind) = codes "why=UnknownTlv:" ++ decimal kind
why_word (Missing field) = codes "why=Missing:" ++ field_name field
why_word (UnknownFec octet) = codes "why=UnknownFec:" ++ decimal octet

abbrev pub message_name : Message → List ℕ
message_name (Notification id status pw_status fec) = codes "Notification"
message_name (Hello id hold targeted request transport) = codes "Hello"
message_name (Initialization id params) = codes "Initialization"
message_name (KeepAlive id) = codes "KeepAlive"
message_name (Address id family octets) = codes "Address"
message_name (AddressWithdraw id addresses fec macs) = codes "AddressWithdraw"
message_name (LabelMapping id fec label pw_status points) = codes "LabelMapping"
message_name (LabelRequest id fec) = codes "LabelRequest"
message_name (LabelWithdraw id fec label) = codes "LabelWithdraw"
message_name (LabelRelease id fec label) = codes "LabelRelease"
message_name (LabelAbort id fec request) = codes "LabelAbort"
message_name (Other id u kind) = codes "Other"
message_name (Unprocessed id kind why) = codes "Unprocessed"

-- the name of a message between a blank and the word that its Message ID follows
abbrev pub opening : Message → List ℕ
opening message = (codes " " ++ message_name message) ++ codes " id="

-- The parts of a message that are there: status, Hello, session parameters, addresses, FEC with its interface
-- parameters, label, PW status, MAC addresses, switching points, the Message ID of a request, and the type of a message
-- that is not known or not processed.
abbrev pub part_words : Message → List (List ℕ)
part_words (Notification id status pw_status fec) = status_word status ∷ (told_fec_words fec ++ pw_status_words pw_status)
part_words (Hello id hold targeted request transport) = hello_word hold targeted request ∷ transport_words transport
part_words (Initialization id params) = session_word params ∷ []
part_words (KeepAlive id) = []
part_words (Address id family octets) = addresses_word family octets ∷ []
part_words (AddressWithdraw id addresses fec macs) = (withdrawn_words addresses ++ told_fec_words fec) ++ macs_words macs
part_words (LabelMapping id fec label pw_status points) = ((fec_words fec ++ (label_word label ∷ [])) ++ pw_status_words pw_status) ++ point_words points
part_words (LabelRequest id fec) = fec_words fec
part_words (LabelWithdraw id fec label) = fec_words fec ++ label_words label
part_words (LabelRelease id fec label) = fec_words fec ++ label_words label
part_words (LabelAbort id fec request) = fec_words fec ++ (request_word request ∷ [])
part_words (Other id u kind) = type_word kind ∷ []
part_words (Unprocessed id kind why) = type_word kind ∷ why_word why ∷ []
