-- The Hellos that an edge says, and what it makes of those that it hears.
use Rattle.std.specs.Prelude.{◌≡◌, ◌<◌, ◌^◌, ◌==◌, ◌&&◌, not, length, ℕ, Bool, true, false, List, [], ◌∷◌, Option, Some, None, Result, Ok, Err, if◌then◌else◌}
use Rattle.std.specs.Str.{bytes_eq}
use Rattle.net_values.specs.declared.addr.Addr.{Addr}
use Rattle.ldp_grammar.specs.declared.ldp_id.LdpId.{LdpId}
use Rattle.ldp_grammar.specs.declared.message.Message.{Message}
use Rattle.ldp_grammar.specs.declared.message.Message.TheVariants as message
use Rattle.ldp_grammar.specs.declared.pdu.Pdu.{Pdu}
use Rattle.ldp_grammar.specs.Spells.{Spells}
use Rattle.ldp_grammar.specs.Written.{written}
use Rattle.ldp_codec.specs.declared.decode_fault.DecodeFault.{DecodeFault}
use Rattle.ldp_codec.specs.declared.decode_fault.DecodeFault.TheVariants.{NoMemory}
use Rattle.ldp_discovery.specs.declared.heard.HelloFault.{HelloFault}
use Rattle.ldp_discovery.specs.declared.heard.HelloFault.TheVariants.{NotPdu, NotHello, NotTargeted, WrongSender}

-- the LDP Identifier of an edge, with label space 0
abbrev pub identifier : Addr → LdpId
identifier address = record { router = address; space = 0 }

-- the Hello of an edge, targeted and asking for one in answer, with its transport address (RFC 5036 section 3.5.2)
abbrev pub hello_of : Addr → ℕ → ℕ → Message
hello_of address id hold = message.Hello id hold true true (Some address)

-- its octets
abbrev pub hello_octets : Addr → ℕ → ℕ → List ℕ
hello_octets address id hold = written (hello_of address id hold) (identifier address)

abbrev pub are_same_address : Addr → Addr → Bool
are_same_address a b = bytes_eq a.0 b.0

-- the transport address is this one, where it is told
abbrev pub tells_address : Addr → Option Addr → Bool
tells_address address None = true
tells_address address (Some told) = are_same_address told address

-- the Hello is of this edge: its LDP Identifier has the address, and its transport address, where it tells one, is the same
abbrev pub is_sender : Addr → LdpId → Option Addr → Bool
is_sender address id transport = (are_same_address id.router address && id.space == 0) && tells_address address transport

-- the hold time of a Hello of the peer with this address, or why the message is none
abbrev pub hold_in_message : Addr → LdpId → Message → Result ℕ HelloFault
hold_in_message address id (message.Hello number hold targeted request transport) =
    if not targeted then Err NotTargeted else if is_sender address id transport then Ok hold else Err WrongSender
hold_in_message address id other = Err NotHello

-- the same of a PDU, which has one message
abbrev pub hold_in_messages : Addr → LdpId → List Message → Result ℕ HelloFault
hold_in_messages address id [] = Err NotPdu
hold_in_messages address id (one ∷ []) = hold_in_message address id one
hold_in_messages address id (one ∷ next ∷ rest) = Err NotPdu

-- the hold time of the Hello that a PDU has, or why it has none
abbrev pub hold_in : Addr → Pdu → Result ℕ HelloFault
hold_in address pdu = hold_in_messages address pdu.id pdu.messages

-- octets are such a Hello, or not: by the PDU that they spell, and where they spell none
pub record Says (address : Addr) (octets : List ℕ) (verdict : Result ℕ HelloFault) : Type 0 where
  pub spelled : (pdu : Pdu) → Spells octets 4096 pdu → verdict ≡ hold_in address pdu
  pub other : ((pdu : Pdu) → ¬ (Spells octets 4096 pdu)) → verdict ≡ Err NotPdu

-- the answer is want of memory
abbrev pub is_no_memory : DecodeFault → Bool
is_no_memory NoMemory = true
is_no_memory fault = false

-- what is heard of the Hello that an edge says
abbrev pub HellosAreHeard : Type 0
HellosAreHeard = (address : Addr) (id hold : ℕ) (verdict : Result ℕ HelloFault) → length address.0 ≡ 4 → id < 2 ^ 32 → hold < 2 ^ 16
    → Says address (hello_octets address id hold) verdict → verdict ≡ Ok hold
