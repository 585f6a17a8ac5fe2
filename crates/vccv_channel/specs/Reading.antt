-- What an echo packet is, and what can be wrong with it (RFC 5085 section 5, RFC 791 section 3.1, RFC 792).
use Rattle.std.specs.Prelude.{◌≡◌, ◌==◌, ◌&&◌, ◌||◌, ◌%◌, not, nat_le, ℕ, Bool, false, List, [], ◌∷◌, length, take, drop, slice_index, Option, Some, None, Result, Ok, Err, if◌then◌else◌}
use Rattle.std.specs.List.{find}
use Rattle.net_values.specs.declared.addr.Addr.{Addr}
use Rattle.net_base.specs.trace.Frame.{pair_at}
use Rattle.vccv_channel.specs.Checksum.{ones_sum}
use Rattle.vccv_channel.specs.Echo.{echo_source, echo_destination}
use Rattle.vccv_channel.specs.declared.echo.Echo.{Echo}
use Rattle.vccv_channel.specs.declared.echo.Echo.TheVariants.{Request, Answer}
use Rattle.vccv_channel.specs.declared.vccv_fault.VccvFault.{VccvFault}
use Rattle.vccv_channel.specs.declared.vccv_fault.VccvFault.TheVariants.{Version, Channel, Ip, Checksum, Icmp, NotOffered}

-- an associated channel header has four octets, and its second nibble is the version 0 (RFC 4385 section 5)
abbrev pub has_version : List ℕ → Bool
has_version payload = nat_le 4 (length payload) && (slice_index payload 0 % 16 == 0)

-- IPv4 is channel type 0x0021 (RFC 4385 section 5)
abbrev pub is_ip_channel : List ℕ → Bool
is_ip_channel payload = pair_at payload 2 == 0x21

-- what comes behind the associated channel header, where there is one
abbrev pub behind_header : Bool → List ℕ → List ℕ
behind_header channel payload = if channel then drop 4 payload else payload

-- the Total Length of an IP packet
abbrev pub total_length : List ℕ → ℕ
total_length octets = pair_at octets 2

-- version 4 with a header of five words; more fragments and fragment offset 0; protocol ICMP
abbrev pub is_whole_icmp : List ℕ → Bool
is_whole_icmp octets =
    (slice_index octets 0 == 0x45) && ((pair_at octets 6 % 0x4000 == 0) && (slice_index octets 9 == 1))

-- a header, an ICMP header and at most 1,500 octets in all, and all are there
abbrev pub is_of_length : List ℕ → Bool
is_of_length octets =
    nat_le 28 (total_length octets) && (nat_le (total_length octets) 1500 && nat_le (total_length octets) (length octets))

-- octets are one IP packet with an ICMP message
abbrev pub is_ip_packet : List ℕ → Bool
is_ip_packet octets = is_whole_icmp octets && is_of_length octets

-- the IPv4 packet of the payload, without what follows it
abbrev pub ip_packet_of : Bool → List ℕ → List ℕ
ip_packet_of channel payload = take (total_length (behind_header channel payload)) (behind_header channel payload)

-- the ones' complement sums of the header and of the ICMP message are all ones (RFC 1071 section 1)
abbrev pub has_sums : List ℕ → Bool
has_sums packet = (ones_sum (take 20 packet) == 65535) && (ones_sum (drop 20 packet) == 65535)

-- an echo request or reply, of code 0 and with this identifier
abbrev pub is_echo : ℕ → List ℕ → Bool
is_echo number packet =
    ((slice_index packet 20 == 8) || (slice_index packet 20 == 0)) && ((slice_index packet 21 == 0) && (pair_at packet 24 == number))

-- what is wrong with a payload, each kind of fault by itself; the first two are of an associated channel header
abbrev pub has_fault : Bool → ℕ → List ℕ → VccvFault → Bool
has_fault channel number payload Version = channel && not (has_version payload)
has_fault channel number payload Channel = channel && not (is_ip_channel payload)
has_fault channel number payload Ip = not (is_ip_packet (behind_header channel payload))
has_fault channel number payload Checksum = not (has_sums (ip_packet_of channel payload))
has_fault channel number payload Icmp = not (is_echo number (ip_packet_of channel payload))
has_fault channel number payload NotOffered = false

-- the first in this order that it has
abbrev pub first_vccv_fault : Bool → ℕ → List ℕ → Option VccvFault
first_vccv_fault channel number payload = find (has_fault channel number payload) (Version ∷ Channel ∷ Ip ∷ Checksum ∷ Icmp ∷ [])

-- what an echo packet says
abbrev pub echo_in : List ℕ → Echo
echo_in packet =
    if slice_index packet 20 == 8
    then Request (record { 0 = echo_source packet }) (record { 0 = echo_destination packet }) (pair_at packet 26) (total_length packet)
    else Answer (pair_at packet 26)

-- what was read, unless it has a fault
abbrev pub unless_fault : Option VccvFault → Echo → Result Echo VccvFault
unless_fault None echo = Ok echo
unless_fault (Some fault) echo = Err fault

-- what a payload is read as: what its packet says, unless it has a fault
unfoldable pub reading : Bool → ℕ → List ℕ → Result Echo VccvFault
reading channel number payload = unless_fault (first_vccv_fault channel number payload) (echo_in (ip_packet_of channel payload))

-- an IPv4 packet, cut to its total length, that is read as an echo request
pub record IsRequest (ip : List ℕ) : Type 0 where
  pub number : ℕ
  pub from : Addr
  pub to : Addr
  pub sequence : ℕ
  pub read : reading false number ip ≡ Ok (Request from to sequence (length ip))
