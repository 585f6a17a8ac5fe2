-- The messages that an edge says on a connection, and their octets.
use Rattle.std.specs.Prelude.{◌≡◌, ◌≤◌, ◌<◌, ◌^◌, ◌++◌, ◌⊎◌, ℕ, true, false, List, [], ◌∷◌, length, Option, Some, None, is_some}
use Rattle.std.specs.List.{AllByRecursion}
use Rattle.net_values.specs.declared.addr.Addr.{Addr}
use Rattle.net_values.specs.declared.mac.Mac.{Mac}
use Rattle.ldp_grammar.specs.declared.address_list.AddressList.{AddressList}
use Rattle.ldp_grammar.specs.declared.message.Message.{Message}
use Rattle.ldp_grammar.specs.declared.message.Message.TheVariants.{Notification, Initialization, KeepAlive, AddressWithdraw, LabelMapping, LabelWithdraw, LabelRelease}
use Rattle.ldp_grammar.specs.declared.status_code.StatusCode.{StatusCode}
use Rattle.net_values.specs.Octets.{AreOctets}
use Rattle.ldp_grammar.specs.Tlvs.{Tlv}
use Rattle.ldp_grammar.specs.Written.{Fits, writable, written, written_tlvs}
use Rattle.pw_tlvs.specs.declared.pw_fec.PwFec.{PwFec}
use Rattle.pw_tlvs.specs.declared.pw_status.PwStatus.{PwStatus}
use Rattle.pw_messages.specs.Content.{pw_status_notice}
use Rattle.pw_messages.specs.Sender.{platform_of}
use Rattle.mac_withdraw.specs.Pieces.{most_in_piece}
use Rattle.session_core.specs.declared.peers.Peers.{Peers}
use Rattle.session_core.specs.Parameters.{proposal}
use Rattle.session_core.specs.StatusCodes.{keep_alive_timer_expired}
use Rattle.pw_tlvs.specs.Fec.{no_params}

-- the octets of messages of one router, each in a PDU of its own
abbrev pub octets_of_all : Addr → List Message → List ℕ
octets_of_all router [] = []
octets_of_all router (message ∷ messages) = written message (platform_of router) ++ octets_of_all router messages

-- the status of the one Notification with which an end leaves by itself: it heard nothing for the hold time
abbrev pub expiry : StatusCode
expiry = record { fatal = true; forward = false; code = keep_alive_timer_expired; message = 0; kind = 0 }

-- the Notification with which an end leaves, and the one that tells the status of a pseudowire
abbrev pub IsLeaving : StatusCode → Option PwStatus → Option PwFec → Type 0
IsLeaving code status fec = (code ≡ expiry) × (status ≡ None) × (fec ≡ None)

-- a Notification that tells the status of a pseudowire has a status and a FEC
abbrev pub IsStatusNotice : StatusCode → Option PwStatus → Option PwFec → Type 0
IsStatusNotice code status fec = (code ≡ pw_status_notice) × (is_some status ≡ true) × (is_some fec ≡ true)

-- an Address Withdraw is a MAC withdraw: it names no addresses of routers, a FEC without parameters, and so few MAC addresses that a
-- PDU of it keeps to every maximum of a session (RFC 4762 section 6.2)
abbrev pub IsMacWithdraw : Option AddressList → Option PwFec → Option (List Mac) → Type 0
IsMacWithdraw None (Some fec) (Some macs) = (fec.params ≡ no_params) × (length macs ≤ most_in_piece)
IsMacWithdraw addresses fec macs = ⊥

-- the values of TLVs are octets
abbrev pub HaveOctets : List Tlv → Type 0
HaveOctets tlvs = AllByRecursion (λ tlv. AreOctets tlv.value) tlvs

-- a message that can be written, whose numbers fit, and whose values are octets
abbrev pub IsSound : Message → Type 0
IsSound message = Fits message × (writable message ≡ true) × HaveOctets (written_tlvs message)

-- an end says its proposal, KeepAlives, what it has to say of pseudowires and of addresses that have moved, and the Notification with
-- which it leaves
abbrev pub IsSaidAcross : Peers → Message → Type 0
IsSaidAcross ends (Initialization id params) = (id < 2 ^ 32) × (params ≡ proposal ends)
IsSaidAcross ends (KeepAlive id) = id < 2 ^ 32
IsSaidAcross ends (Notification id code status fec) = IsSound (Notification id code status fec) × (IsLeaving code status fec ⊎ IsStatusNotice code status fec)
IsSaidAcross ends (AddressWithdraw id addresses fec macs) = IsSound (AddressWithdraw id addresses fec macs) × IsMacWithdraw addresses fec macs
IsSaidAcross ends (LabelMapping id fec label status points) = IsSound (LabelMapping id fec label status points)
IsSaidAcross ends (LabelWithdraw id fec label) = IsSound (LabelWithdraw id fec label)
IsSaidAcross ends (LabelRelease id fec label) = IsSound (LabelRelease id fec label)
IsSaidAcross ends message = ⊥

-- each of the messages is
abbrev pub AreSaid : Peers → List Message → Type 0
AreSaid ends [] = Unit {0}
AreSaid ends (message ∷ messages) = IsSaidAcross ends message × AreSaid ends messages
