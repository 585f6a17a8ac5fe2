-- The IPv4 packets of a ping and of its answer (RFC 5085 section 5.2.1, RFC 791 section 3.1, RFC 792).
use Rattle.std.specs.Prelude.{◌≡◌, ◌<◌, ◌^◌, ◌++◌, ℕ, List, [], ◌∷◌, length, take, drop, slice_index}
use Rattle.byteorder.specs.Endian.{big_bytes}
use Rattle.vccv_channel.specs.Checksum.{summed, IsSummed}
use Rattle.net_values.specs.Octets.{AreOctets}
use Rattle.vccv_channel.specs.declared.ping.Ping.{Ping}

-- version 4 with a header of five words, total length 28, identification 0, no fragment, TTL 255, protocol ICMP
abbrev pub request_header : Ping → List ℕ
request_header ping =
    summed (0x45 ∷ 0 ∷ 0 ∷ 28 ∷ 0 ∷ 0 ∷ 0 ∷ 0 ∷ 255 ∷ 1 ∷ []) (ping.from.0 ++ ping.to.0)

-- an echo request with code 0, and no octets behind its sequence number
abbrev pub request_message : Ping → List ℕ
request_message ping = summed (8 ∷ 0 ∷ []) (big_bytes 2 ping.number ++ big_bytes 2 ping.sequence)

-- the IP packet of a ping's request
abbrev pub request_packet : Ping → List ℕ
request_packet ping = request_header ping ++ request_message ping

-- the source address of an IP packet
abbrev pub echo_source : List ℕ → List ℕ
echo_source ip = take 4 (drop 12 ip)

-- its destination address
abbrev pub echo_destination : List ℕ → List ℕ
echo_destination ip = take 4 (drop 16 ip)

-- the header of the request with TTL 255, its addresses exchanged and its checksum made anew
abbrev pub answer_header : List ℕ → List ℕ
answer_header ip = summed (take 8 ip ++ (255 ∷ slice_index ip 9 ∷ [])) (echo_destination ip ++ echo_source ip)

-- the message of the request as an echo reply, with its checksum made anew
abbrev pub answer_message : List ℕ → List ℕ
answer_message ip = summed (0 ∷ slice_index ip 21 ∷ []) (drop 24 ip)

-- the IP packet of the answer to a request
abbrev pub answer_packet : List ℕ → List ℕ
answer_packet ip = answer_header ip ++ answer_message ip

-- the numbers and addresses of a ping are those that its type holds
pub record IsPing (ping : Ping) : Type 0 where
  pub from : AreOctets ping.from.0
  pub from_whole : length ping.from.0 ≡ 4
  pub to : AreOctets ping.to.0
  pub to_whole : length ping.to.0 ≡ 4
  pub number : ping.number < 2 ^ 16
  pub sequence : ping.sequence < 2 ^ 16

-- one packet answers another: it is that one with its addresses exchanged, TTL 255 and ICMP type 0, and its sums are right
pub record IsAnswerTo (request answer : List ℕ) : Type 0 where
  pub before_ttl : take 8 answer ≡ take 8 request
  pub ttl : slice_index answer 8 ≡ 255
  pub protocol : slice_index answer 9 ≡ slice_index request 9
  pub from : echo_source answer ≡ echo_destination request
  pub to : echo_destination answer ≡ echo_source request
  pub kind : slice_index answer 20 ≡ 0
  pub code : slice_index answer 21 ≡ slice_index request 21
  pub rest : drop 24 answer ≡ drop 24 request
  pub header_sum : IsSummed (take 20 answer)
  pub message_sum : IsSummed (drop 20 answer)
