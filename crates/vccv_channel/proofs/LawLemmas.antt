-- What is written is read, and an answer is the request turned round.
use Rattle.std.proofs.Common.{◌≡◌, ◌≤◌, ◌<◌, ◌/◌, ◌%◌, ◌++◌, ◌∙◌, ◌==◌, ◌&&◌, ◌||◌, ℕ, Bool, true, false, Ok, List, [], ◌∷◌, length, get_or, take, drop, refl, ap, sym, subst, arith}
use Rattle.std.proofs.lemmas.List.{length-take-le, length-append, take_all, take_at, drop_at}
use Rattle.std.proofs.lemmas.Bool.{eq-eqb, and_from, and_parts}
use Rattle.net_values.specs.declared.addr.Addr.{Addr}
use Rattle.net_base.specs.trace.Frame.{pair_at}
use Rattle.byteorder.specs.Endian.{big_bytes}
use Rattle.vccv_channel.specs.declared.cc.Cc.{Cc}
use Rattle.vccv_channel.specs.declared.echo.Echo.{Echo}
use Rattle.vccv_channel.specs.declared.echo.Echo.TheVariants.{Request, Answer}
use Rattle.vccv_channel.specs.declared.ping.Ping.{Ping}
use Rattle.vccv_channel.specs.Channel.{has_header, payload}
use Rattle.vccv_channel.specs.Checksum.{ones_sum, summed, IsSummed}
use Rattle.net_values.specs.Octets.{AreOctets}
use Rattle.vccv_channel.specs.Echo.{request_packet, answer_packet, answer_header, answer_message, echo_source, echo_destination, IsPing, IsAnswerTo}
use Rattle.vccv_channel.specs.Reading.{is_ip_packet, has_sums, is_echo, total_length, reading, behind_header, IsRequest}
use Rattle.vccv_channel.proofs.OctetLemmas.{octets_none, octets_cons, octets_append, octets_take, octets_drop, pair_take}
use Rattle.vccv_channel.proofs.SumLemmas.{summed_is, word_of}
use Rattle.vccv_channel.proofs.ReadingLemmas.{IsRead, read_as, faultless, in_channel, cut_is_ip}

-- the sums of a packet in two summed parts, the first of them a header, are right
sums_of : (header message : List ℕ) → IsSummed header → IsSummed message → length header ≡ 20 → has_sums (header ++ message) ≡ true
sums_of header message h m size =
    let front : take 20 (header ++ message) ≡ header = take_at header message 20 size in
    let back : drop 20 (header ++ message) ≡ message = drop_at header message 20 size in
    and_from (ones_sum (take 20 (header ++ message)) == 65535) (ones_sum (drop 20 (header ++ message)) == 65535)
    (eq-eqb (ones_sum (take 20 (header ++ message))) 65535 (ap ones_sum front ∙ h)) (eq-eqb (ones_sum (drop 20 (header ++ message))) 65535 (ap ones_sum back ∙ m))

-- the parts of a request are octets
front_octets : AreOctets (69 ∷ 0 ∷ 0 ∷ 28 ∷ 0 ∷ 0 ∷ 0 ∷ 0 ∷ 255 ∷ 1 ∷ [])
front_octets = octets_append (69 ∷ 0 ∷ 0 ∷ 28 ∷ 0 ∷ []) (0 ∷ 0 ∷ 0 ∷ 255 ∷ 1 ∷ [])
    (octets_cons 69 (0 ∷ 0 ∷ 28 ∷ 0 ∷ []) (omega arith)
    (octets_cons 0 (0 ∷ 28 ∷ 0 ∷ []) (omega arith) (octets_cons 0 (28 ∷ 0 ∷ []) (omega arith) (octets_cons 28 (0 ∷ []) (omega arith) (octets_cons 0 [] (omega arith) octets_none)))))
    (octets_cons 0 (0 ∷ 0 ∷ 255 ∷ 1 ∷ []) (omega arith)
    (octets_cons 0 (0 ∷ 255 ∷ 1 ∷ []) (omega arith) (octets_cons 0 (255 ∷ 1 ∷ []) (omega arith) (octets_cons 255 (1 ∷ []) (omega arith) (octets_cons 1 [] (omega arith) octets_none)))))

two_octets : (n : ℕ) → AreOctets (big_bytes 2 n)
two_octets n = octets_cons (n / 256 % 256) (n % 256 ∷ []) (omega arith) (octets_cons (n % 256) [] (omega arith) octets_none)

-- a request says what its ping asks
request_at : (from to : List ℕ) (number sequence : ℕ) → length from ≡ 4 → length to ≡ 4 → AreOctets from → AreOctets to → number < 65536 → sequence < 65536
    → reading false number (summed (69 ∷ 0 ∷ 0 ∷ 28 ∷ 0 ∷ 0 ∷ 0 ∷ 0 ∷ 255 ∷ 1 ∷ []) (from ++ to) ++ summed (8 ∷ 0 ∷ []) (big_bytes 2 number ++ big_bytes 2 sequence))
    ≡ Ok (Request (record { 0 = from }) (record { 0 = to }) sequence 28)
request_at (a ∷ b ∷ c ∷ d ∷ []) (e ∷ f ∷ g ∷ h ∷ []) number sequence lf lt fo to fn fs =
    let from : List ℕ = a ∷ b ∷ c ∷ d ∷ [] in
    let dest : List ℕ = e ∷ f ∷ g ∷ h ∷ [] in
    let header : List ℕ = summed (69 ∷ 0 ∷ 0 ∷ 28 ∷ 0 ∷ 0 ∷ 0 ∷ 0 ∷ 255 ∷ 1 ∷ []) (from ++ dest) in
    let message : List ℕ = summed (8 ∷ 0 ∷ []) (big_bytes 2 number ++ big_bytes 2 sequence) in
    let h_sum : IsSummed header = summed_is (69 ∷ 0 ∷ 0 ∷ 28 ∷ 0 ∷ 0 ∷ 0 ∷ 0 ∷ 255 ∷ 1 ∷ []) (from ++ dest) front_octets (octets_append from dest fo to) refl in
    let m_sum : IsSummed message = summed_is (8 ∷ 0 ∷ []) (big_bytes 2 number ++ big_bytes 2 sequence)
    (octets_cons 8 (0 ∷ []) (omega arith) (octets_cons 0 [] (omega arith) octets_none)) (octets_append (big_bytes 2 number) (big_bytes 2 sequence) (two_octets number) (two_octets sequence)) refl in
    faultless number (header ++ message) refl refl (sums_of header message h_sum m_sum refl) (eq-eqb (pair_at (header ++ message) 24) number (word_of number fn))
    ∙ ap (λ (s : ℕ). Ok (Request (record { 0 = from }) (record { 0 = dest }) s 28)) (word_of sequence fs)
request_at from to number sequence lf lt fo too fn fs = absurd (omega arith)

pub request_read : (kind : Cc) (ping : Ping) → IsPing ping → reading (has_header kind) ping.number (payload kind (request_packet ping)) ≡ Ok (Request ping.from ping.to ping.sequence 28)
request_read kind ping is =
    in_channel kind ping.number (request_packet ping)
    ∙ request_at ping.from.0 ping.to.0 ping.number ping.sequence is.from_whole is.to_whole is.from is.to is.number is.sequence

-- the parts of an answer are octets
header_front_octets : (ip : List ℕ) → AreOctets ip → AreOctets (take 8 ip ++ (255 ∷ get_or ip 9 0 ∷ []))
header_front_octets ip octets =
    octets_append (take 8 ip) (255 ∷ get_or ip 9 0 ∷ []) (octets_take 8 ip octets) (octets_cons 255 (get_or ip 9 0 ∷ []) (omega arith) (octets_cons (get_or ip 9 0) [] (octets 9) octets_none))

addresses_octets : (ip : List ℕ) → AreOctets ip → AreOctets (echo_destination ip ++ echo_source ip)
addresses_octets ip octets =
    octets_append (echo_destination ip) (echo_source ip) (octets_take 4 (drop 16 ip) (octets_drop 16 ip octets)) (octets_take 4 (drop 12 ip) (octets_drop 12 ip octets))

header_summed : (ip : List ℕ) → AreOctets ip → length (take 8 ip) ≡ 8 → IsSummed (answer_header ip)
header_summed ip octets size =
    let even : length (take 8 ip ++ (255 ∷ get_or ip 9 0 ∷ [])) % 2 ≡ 0 = omega (arith, length-append (take 8 ip) (255 ∷ get_or ip 9 0 ∷ [])) in
    summed_is (take 8 ip ++ (255 ∷ get_or ip 9 0 ∷ [])) (echo_destination ip ++ echo_source ip) (header_front_octets ip octets) (addresses_octets ip octets) even

message_summed : (ip : List ℕ) → AreOctets ip → IsSummed (answer_message ip)
message_summed ip octets =
    summed_is (0 ∷ get_or ip 21 0 ∷ []) (drop 24 ip) (octets_cons 0 (get_or ip 21 0 ∷ []) (omega arith) (octets_cons (get_or ip 21 0) [] (octets 21) octets_none)) (octets_drop 24 ip octets) refl

-- an answer has no fault, and the request's sequence number
answer_at : (ip : List ℕ) (number : ℕ) → AreOctets ip → 28 ≤ length ip → total_length ip ≡ length ip → is_ip_packet ip ≡ true → is_echo number ip ≡ true
    → reading false number (answer_packet ip) ≡ Ok (Answer (pair_at ip 26))
answer_at (a0 ∷ a1 ∷ a2 ∷ a3 ∷ a4 ∷ a5 ∷ a6 ∷ a7 ∷ a8 ∷ a9 ∷ a10 ∷ a11 ∷ a12 ∷ a13 ∷ a14 ∷ a15 ∷ a16 ∷ a17 ∷ a18 ∷ a19 ∷ a20 ∷ a21 ∷ a22 ∷ a23 ∷ rest) number octets long total is echo =
    let ip : List ℕ = a0 ∷ a1 ∷ a2 ∷ a3 ∷ a4 ∷ a5 ∷ a6 ∷ a7 ∷ a8 ∷ a9 ∷ a10 ∷ a11 ∷ a12 ∷ a13 ∷ a14 ∷ a15 ∷ a16 ∷ a17 ∷ a18 ∷ a19 ∷ a20 ∷ a21 ∷ a22 ∷ a23 ∷ rest in
    let whole : take (total_length (answer_packet ip)) (answer_packet ip) ≡ answer_packet ip = take_all (total_length ip) (answer_packet ip) (omega (arith, total)) in
    let size : length (take 8 ip) ≡ 8 = refl in
    let named = and_parts ((a20 == 8) || (a20 == 0)) ((a21 == 0) && (pair_at ip 24 == number)) echo in
    faultless number (answer_packet ip) is whole (sums_of (answer_header ip) (answer_message ip) (header_summed ip octets size) (message_summed ip octets) refl) named.1
answer_at ip number octets long total is echo = absurd (omega arith)

pub answer_read : (kind : Cc) (number : ℕ) (ip : List ℕ) (from to : Addr) (sequence : ℕ) → AreOctets ip → reading false number ip ≡ Ok (Request from to sequence (length ip))
    → reading (has_header kind) number (payload kind (answer_packet ip)) ≡ Ok (Answer sequence)
answer_read kind number ip from to sequence octets e =
    let r : IsRead number ip from to sequence (length ip) = read_as false number ip from to sequence (length ip) e in
    let same : take (total_length ip) ip ≡ ip = take_all (total_length ip) ip (omega (arith, r.counted)) in
    let echo : is_echo number ip ≡ true = ap (is_echo number) (sym same) ∙ r.echo in
    in_channel kind number (answer_packet ip)
    ∙ (answer_at ip number octets (omega (arith, r.counted, r.least)) r.counted r.ip echo ∙ ap (λ (s : ℕ). Ok (Answer s)) r.numbered)

-- an answer is the request turned round
answer_to : (ip : List ℕ) → AreOctets ip → 28 ≤ length ip → IsAnswerTo ip (answer_packet ip)
answer_to (a0 ∷ a1 ∷ a2 ∷ a3 ∷ a4 ∷ a5 ∷ a6 ∷ a7 ∷ a8 ∷ a9 ∷ a10 ∷ a11 ∷ a12 ∷ a13 ∷ a14 ∷ a15 ∷ a16 ∷ a17 ∷ a18 ∷ a19 ∷ a20 ∷ a21 ∷ a22 ∷ a23 ∷ rest) octets long =
    let ip : List ℕ = a0 ∷ a1 ∷ a2 ∷ a3 ∷ a4 ∷ a5 ∷ a6 ∷ a7 ∷ a8 ∷ a9 ∷ a10 ∷ a11 ∷ a12 ∷ a13 ∷ a14 ∷ a15 ∷ a16 ∷ a17 ∷ a18 ∷ a19 ∷ a20 ∷ a21 ∷ a22 ∷ a23 ∷ rest in
    record {
      before_ttl = refl;
      ttl = refl;
      protocol = refl;
      from = refl;
      to = refl;
      kind = refl;
      code = refl;
      rest = refl;
      header_sum = header_summed ip octets refl;
      message_sum = message_summed ip octets;
    }
answer_to ip octets long = absurd (omega arith)

-- what a request is long
pub request_long : (ip : List ℕ) → IsRequest ip → 28 ≤ length ip
request_long ip is =
    let r : IsRead is.number ip is.from is.to is.sequence (length ip) = read_as false is.number ip is.from is.to is.sequence (length ip) is.read in
    omega (arith, r.counted, r.least)

pub request_answered : (ip : List ℕ) → AreOctets ip → IsRequest ip → IsAnswerTo ip (answer_packet ip)
request_answered ip octets is = answer_to ip octets (request_long ip is)

-- the packet of a payload that is read as a request, cut to its length, is a request
pub cut_is_request : (channel : Bool) (number : ℕ) (octets : List ℕ) (from to : Addr) (sequence len : ℕ) → reading channel number octets ≡ Ok (Request from to sequence len)
    → IsRequest (take len (behind_header channel octets))
cut_is_request channel number octets from to sequence len e =
    let q : List ℕ = behind_header channel octets in
    let r : IsRead number q from to sequence len = read_as channel number octets from to sequence len e in
    let p : List ℕ = take (total_length q) q in
    let size : length p ≡ total_length q = length-take-le (total_length q) q r.whole in
    let count : total_length p ≡ total_length q = pair_take (total_length q) q 2 (omega (arith, r.least)) in
    let whole : take (total_length p) p ≡ p = take_all (total_length p) p (omega (arith, size, count)) in
    let is : is_ip_packet p ≡ true = cut_is_ip q r.ip r.least r.whole in
    let counted : len ≡ length p = sym r.counted ∙ sym size in
    let read : reading false number p ≡ Ok (Request from to sequence (length p)) =
    faultless number p is whole r.sums r.echo ∙ (ap (λ (echo : Echo). Ok echo) r.says ∙ ap (λ (n : ℕ). Ok (Request from to sequence n)) counted) in
    let request : IsRequest p = record { number = number; from = from; to = to; sequence = sequence; read = read } in
    subst (λ (n : ℕ). IsRequest (take n q)) r.counted request
