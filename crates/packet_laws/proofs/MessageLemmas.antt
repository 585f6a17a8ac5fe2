-- The messages of pings and of their answers, and how they are read.
use Rattle.std.proofs.Common.{◌≡◌, ◌≤◌, ◌<◌, ◌/◌, ◌%◌, ◌++◌, ◌∙◌, ◌-◌, ℕ, false, List, [], ◌∷◌, Result, Ok, length, take, refl, ap, sym, arith}
use Rattle.std.proofs.lemmas.List.{length-append, take_all}
use Rattle.std.specs.List.{AllByRecursion}
use Rattle.byteorder.specs.Endian.{big_bytes}
use Rattle.net_values.specs.Octets.{AreOctets}
use Rattle.net_values.specs.declared.addr.Addr.{Addr}
use Rattle.net_base.specs.declared.plan.wire_plan.WirePlan.{WirePlan}
use Rattle.vccv_channel.specs.declared.cc.Cc.{Cc}
use Rattle.vccv_channel.specs.declared.cc.Cc.TheVariants.{Header, Alert, Expiry}
use Rattle.vccv_channel.specs.declared.echo.Echo.{Echo}
use Rattle.vccv_channel.specs.declared.echo.Echo.TheVariants.{Request, Answer}
use Rattle.vccv_channel.specs.declared.ping.Ping.{Ping}
use Rattle.vccv_channel.specs.declared.vccv_fault.VccvFault.{VccvFault}
use Rattle.vccv_channel.specs.Channel.{has_header, payload}
use Rattle.vccv_channel.specs.Checksum.{ones_sum, summed}
use Rattle.vccv_channel.specs.Echo.{IsPing, request_header, request_message, request_packet}
use Rattle.vccv_channel.specs.Reading.{ip_packet_of, reading, total_length}
use Rattle.vccv_channel.proofs.LawLemmas.{answer_read, request_read}
use Rattle.vccv_channel.proofs.OctetLemmas.{octets_append, octets_cons, octets_none}
use Rattle.vccv_channel.proofs.PacketLemmas.{summed_length}
use Rattle.edge_model.specs.Echo.{ping_number}
use Rattle.edge_model.specs.Packet.{is_channel}
use Rattle.edge_model.specs.Ping.{ping_between}
use Rattle.packet_laws.specs.Echoed.{Answers, Asks, IsEchoMessage}

-- ---- octets

two_octets : (n : ℕ) → AreOctets (big_bytes 2 n)
two_octets n = octets_cons (n / 256 % 256) (n % 256 ∷ []) (omega arith) (octets_cons (n % 256) [] (omega arith) octets_none)

summed_octets : (front back : List ℕ) → AreOctets front → AreOctets back → AreOctets (summed front back)
summed_octets front back before behind =
    let sum : List ℕ = big_bytes 2 (65535 - ones_sum (front ++ (0 ∷ 0 ∷ back))) in
    octets_append front (sum ++ back) before (octets_append sum back (two_octets (65535 - ones_sum (front ++ (0 ∷ 0 ∷ back)))) behind)

octet : (n : ℕ) → n < 256 → AreOctets (n ∷ [])
octet n low = octets_cons n [] low octets_none

-- ---- a ping

front_octets : AreOctets (0x45 ∷ 0 ∷ 0 ∷ 28 ∷ 0 ∷ 0 ∷ 0 ∷ 0 ∷ 255 ∷ 1 ∷ [])
front_octets = octets_append (0x45 ∷ 0 ∷ 0 ∷ 28 ∷ 0 ∷ []) (0 ∷ 0 ∷ 0 ∷ 255 ∷ 1 ∷ [])
    (octets_cons 0x45 (0 ∷ 0 ∷ 28 ∷ 0 ∷ []) (omega arith)
    (octets_cons 0 (0 ∷ 28 ∷ 0 ∷ []) (omega arith) (octets_cons 0 (28 ∷ 0 ∷ []) (omega arith) (octets_cons 28 (0 ∷ []) (omega arith) (octet 0 (omega arith))))))
    (octets_cons 0 (0 ∷ 0 ∷ 255 ∷ 1 ∷ []) (omega arith)
    (octets_cons 0 (0 ∷ 255 ∷ 1 ∷ []) (omega arith) (octets_cons 0 (255 ∷ 1 ∷ []) (omega arith) (octets_cons 255 (1 ∷ []) (omega arith) (octet 1 (omega arith))))))

request_octets : (ping : Ping) → AreOctets ping.from.0 → AreOctets ping.to.0 → AreOctets (request_packet ping)
request_octets ping from to =
    octets_append (request_header ping) (request_message ping)
    (summed_octets (0x45 ∷ 0 ∷ 0 ∷ 28 ∷ 0 ∷ 0 ∷ 0 ∷ 0 ∷ 255 ∷ 1 ∷ []) (ping.from.0 ++ ping.to.0) front_octets (octets_append ping.from.0 ping.to.0 from to))
    (summed_octets (8 ∷ 0 ∷ []) (big_bytes 2 ping.number ++ big_bytes 2 ping.sequence) (octets_cons 8 (0 ∷ []) (omega arith) (octet 0 (omega arith)))
    (octets_append (big_bytes 2 ping.number) (big_bytes 2 ping.sequence) (two_octets ping.number) (two_octets ping.sequence)))

request_size : (ping : Ping) → length ping.from.0 ≡ 4 → length ping.to.0 ≡ 4 → length (request_packet ping) ≡ 28
request_size ping from to =
    let header = summed_length (0x45 ∷ 0 ∷ 0 ∷ 28 ∷ 0 ∷ 0 ∷ 0 ∷ 0 ∷ 255 ∷ 1 ∷ []) (ping.from.0 ++ ping.to.0) in
    let message = summed_length (8 ∷ 0 ∷ []) (big_bytes 2 ping.number ++ big_bytes 2 ping.sequence) in
    omega (
      arith,
      length-append (summed (0x45 ∷ 0 ∷ 0 ∷ 28 ∷ 0 ∷ 0 ∷ 0 ∷ 0 ∷ 255 ∷ 1 ∷ []) (ping.from.0 ++ ping.to.0))
          (summed (8 ∷ 0 ∷ []) (big_bytes 2 ping.number ++ big_bytes 2 ping.sequence)),
      header,
      message,
      length-append ping.from.0 ping.to.0,
      from,
      to,
    )

-- a sequence number counts modulo 65,536
low_part : (n : ℕ) → n % 65536 % 256 ≡ n % 256
low_part n = omega arith

high_part : (n : ℕ) → n % 65536 / 256 % 256 ≡ n / 256 % 256
high_part n = omega arith

two_same : (n : ℕ) → big_bytes 2 (n % 65536) ≡ big_bytes 2 n
two_same n = ap (λ (h : ℕ). h ∷ n % 65536 % 256 ∷ []) (high_part n) ∙ ap (λ (l : ℕ). n / 256 % 256 ∷ l ∷ []) (low_part n)

pub request_same : (ping : Ping) → request_packet (record ping { sequence = ping.sequence % 65536 }) ≡ request_packet ping
request_same ping =
    ap (λ (l : List ℕ). summed (0x45 ∷ 0 ∷ 0 ∷ 28 ∷ 0 ∷ 0 ∷ 0 ∷ 0 ∷ 255 ∷ 1 ∷ []) (ping.from.0 ++ ping.to.0) ++ summed (8 ∷ 0 ∷ []) (big_bytes 2 ping.number ++ l)) (two_same ping.sequence)

pub below : (n : ℕ) → n % 65536 < 65536
below n = omega arith

-- an address has four octets
pub record IsFour (address : Addr) : Type 0 where
  pub octets : AreOctets address.0
  pub whole : length address.0 ≡ 4

-- octets one by one
pub all_octets : (octets : List ℕ) → AllByRecursion (λ octet. octet < 256) octets → AreOctets octets
all_octets [] all = octets_none
all_octets (o ∷ os) all = octets_cons o os all.0 (all_octets os all.1)

-- ---- how they are read

is_of_type : (row : WirePlan) (from to : Addr) (sequence : ℕ) → IsFour from → IsFour to → sequence < 65536 → IsPing (ping_between row from to sequence)
is_of_type row from to sequence near far fits = record { from = near.octets; from_whole = near.whole; to = far.octets; to_whole = far.whole; number = below row.pw_id; sequence = fits }

-- a message begins with the nibble of IPv4
pub starts_version : (row : WirePlan) (from to : Addr) (ip : List ℕ) → IsEchoMessage row from to ip → is_channel ip ≡ false
starts_version row from to ip (Asks sequence fits is) = ap is_channel is
starts_version row from to ip (Answers sequence fits is) = ap is_channel is

-- what is read as a request is one, and no answer
pub record IsRequestOf (row : WirePlan) (from to : Addr) (ip : List ℕ) : Type 0 where
  pub sequence : ℕ
  pub fits : sequence < 65536
  pub is : ip ≡ request_packet (ping_between row from to sequence)

no_answer : {P : Type 0} (asked : ℕ) (one other : Addr) (sequence long : ℕ) (read : Result Echo VccvFault) → read ≡ Ok (Answer asked) → read ≡ Ok (Request one other sequence long) → P
no_answer asked one other sequence long read first second = absurd (cc (first, second))

pub asks_only : (row : WirePlan) (from to : Addr) (kind : Cc) (ip : List ℕ) (one other : Addr) (sequence long : ℕ) → IsFour from → IsFour to → IsEchoMessage row from to ip
    → reading (has_header kind) (ping_number row) (payload kind ip) ≡ Ok (Request one other sequence long) → IsRequestOf row from to ip
asks_only row from to kind ip one other sequence long near far (Asks asked fits is) read = record { sequence = asked; fits = fits; is = is }
asks_only row from to kind ip one other sequence long near far (Answers asked fits is) read = no_answer asked one other sequence long (reading (has_header kind) (ping_number row) (payload kind ip)) answered read where
  ping : Ping
  ping = ping_between row to from asked

  typed : IsPing ping
  typed = is_of_type row to from asked far near fits

  size : length (request_packet ping) ≡ 28
  size = request_size ping far.whole near.whole

  request : reading false (ping_number row) (request_packet ping) ≡ Ok (Request to from asked (length (request_packet ping)))
  request = request_read Expiry ping typed ∙ ap (λ (n : ℕ). Ok (Request to from asked n)) (sym size)

  answered : reading (has_header kind) (ping_number row) (payload kind ip) ≡ Ok (Answer asked)
  answered = ap (λ (l : List ℕ). reading (has_header kind) (ping_number row) (payload kind l)) is
      ∙ answer_read kind (ping_number row) (request_packet ping) to from asked (request_octets ping far.octets near.octets) request

-- the packet of a request is found behind the header of its channel
pub cut_of : (row : WirePlan) (from to : Addr) (kind : Cc) (ip : List ℕ) → IsFour from → IsFour to → IsRequestOf row from to ip → ip_packet_of (has_header kind) (payload kind ip) ≡ ip
cut_of row from to kind ip near far request = behind kind ∙ (ap (λ (l : List ℕ). take (total_length l) l) request.is ∙ (take_all 28 (request_packet ping) whole ∙ sym request.is)) where
  ping : Ping
  ping = ping_between row from to request.sequence

  size : length (request_packet ping) ≡ 28
  size = request_size ping near.whole far.whole

  whole : length (request_packet ping) ≤ 28
  whole = omega (arith, size)

  behind : (kind : Cc) → ip_packet_of (has_header kind) (payload kind ip) ≡ take (total_length ip) ip
  behind Header = refl
  behind Alert = refl
  behind Expiry = refl
