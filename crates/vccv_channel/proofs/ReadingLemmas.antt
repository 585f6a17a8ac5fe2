-- What a payload without a fault is.
use Rattle.std.proofs.Common.{◌≡◌, ◌≤◌, ◌∙◌, ◌==◌, ◌&&◌, nat_le, not, cond, ℕ, Bool, true, false, Some, None, Ok, Err, List, ◌∷◌, length, get_or, take, refl, ap, sym, arith}
use Rattle.std.proofs.lemmas.List.{get_or-take, length-take-le}
use Rattle.std.proofs.lemmas.Bool.Decides.{nat_tests}
use Rattle.std.proofs.lemmas.Bool.{and_parts, not-false}
use Rattle.net_values.specs.declared.addr.Addr.{Addr}
use Rattle.net_base.specs.trace.Frame.{pair_at}
use Rattle.vccv_channel.specs.declared.cc.Cc.{Cc}
use Rattle.vccv_channel.specs.declared.cc.Cc.TheVariants.{Header, Alert, Expiry}
use Rattle.vccv_channel.specs.declared.echo.Echo.{Echo}
use Rattle.vccv_channel.specs.declared.echo.Echo.TheVariants.{Request, Answer}
use Rattle.vccv_channel.specs.declared.vccv_fault.VccvFault.{VccvFault}
use Rattle.vccv_channel.specs.declared.vccv_fault.VccvFault.TheVariants.{Version, Channel, Ip, Checksum, Icmp}
use Rattle.vccv_channel.specs.Channel.{has_header, payload}
use Rattle.vccv_channel.specs.Echo.{echo_source, echo_destination}
use Rattle.vccv_channel.specs.Reading.{is_whole_icmp, is_of_length, is_ip_packet, has_sums, is_echo, behind_header, total_length, ip_packet_of, has_fault, unless_fault, echo_in, reading}
use Rattle.vccv_channel.proofs.OctetLemmas.{pair_take}

-- where a value is read, none of five tests found a fault
none_found : (a b c d e : Bool) (f g h i j : VccvFault) (x y : Echo) → unless_fault (cond a (Some f) (cond b (Some g) (cond c (Some h) (cond d (Some i) (cond e (Some j) None))))) x ≡ Ok y
    → (c ≡ false) × (d ≡ false) × (e ≡ false) × (x ≡ y)
none_found true b c d e f g h i j x y w = cc
none_found false true c d e f g h i j x y w = cc
none_found false false true d e f g h i j x y w = cc
none_found false false false true e f g h i j x y w = cc
none_found false false false false true f g h i j x y w = cc
none_found false false false false false f g h i j x y w = (refl, refl, refl, (cc))

-- what is said of a request
request_says : (b : Bool) (from to from' to' : Addr) (s s' l l' t : ℕ) → cond b (Request from to s l) (Answer t) ≡ Request from' to' s' l' → (s ≡ s') × (l ≡ l')
request_says true from to from' to' s s' l l' t e = ((cc), (cc))
request_says false from to from' to' s s' l l' t e = cc

pub of_length : (t n : ℕ) → (nat_le 28 t && (nat_le t 1500 && nat_le t n)) ≡ true → (28 ≤ t) × (t ≤ n)
of_length t n e = (grind (arith, nat_tests), grind (arith, nat_tests))

-- a payload that is read as a request, by its IPv4 packet
pub record IsRead (number : ℕ) (octets : List ℕ) (from to : Addr) (sequence len : ℕ) : Type 0 where
  pub ip : is_ip_packet octets ≡ true
  pub least : 28 ≤ total_length octets
  pub whole : total_length octets ≤ length octets
  pub counted : total_length octets ≡ len
  pub numbered : pair_at octets 26 ≡ sequence
  pub sums : has_sums (take (total_length octets) octets) ≡ true
  pub echo : is_echo number (take (total_length octets) octets) ≡ true
  pub says : echo_in (take (total_length octets) octets) ≡ Request from to sequence len

pub read_as : (channel : Bool) (number : ℕ) (octets : List ℕ) (from to : Addr) (sequence len : ℕ) → reading channel number octets ≡ Ok (Request from to sequence len)
    → IsRead number (behind_header channel octets) from to sequence len
unfolding reading
read_as channel number octets from to sequence len e =
    let q : List ℕ = behind_header channel octets in
    let p : List ℕ = take (total_length q) q in
    let none = none_found (has_fault channel number octets Version) (has_fault channel number octets Channel) (not (is_ip_packet q)) (not (has_sums p))
    (not (is_echo number p)) Version Channel Ip Checksum Icmp (echo_in p) (Request from to sequence len) e in
    let is : is_ip_packet q ≡ true = not-false (is_ip_packet q) none.0 in
    let sized = and_parts (is_whole_icmp q) (is_of_length q) is in
    let bounds = of_length (total_length q) (length q) sized.1 in
    let told = request_says (get_or p 20 0 == 8) (record { 0 = echo_source p }) (record { 0 = echo_destination p }) from to (pair_at p 26) sequence (total_length p) len (pair_at p 26) none.3 in
    let count : total_length p ≡ total_length q = pair_take (total_length q) q 2 (omega (arith, bounds.0)) in
    let last : pair_at p 26 ≡ pair_at q 26 = pair_take (total_length q) q 26 (omega (arith, bounds.0)) in
    record {
      ip = is;
      least = bounds.0;
      whole = bounds.1;
      counted = sym count ∙ told.1;
      numbered = sym last ∙ told.0;
      sums = not-false (has_sums p) none.1;
      echo = not-false (is_echo number p) none.2;
      says = none.3;
    }

-- an IPv4 packet of its total length without a fault
pub faultless : (number : ℕ) (p : List ℕ) → is_ip_packet p ≡ true → take (total_length p) p ≡ p → has_sums p ≡ true → is_echo number p ≡ true → reading false number p ≡ Ok (echo_in p)
unfolding reading
faultless number p ip whole sums echo =
    let cut : has_sums (take (total_length p) p) ≡ true = ap has_sums whole ∙ sums in
    let named : is_echo number (take (total_length p) p) ≡ true = ap (is_echo number) whole ∙ echo in
    let says : echo_in (take (total_length p) p) ≡ echo_in p = ap echo_in whole in
    rw (ip, cut, named, says) refl

-- an associated channel header, where the control channel has one, is passed over
pub in_channel : (kind : Cc) (number : ℕ) (p : List ℕ) → reading (has_header kind) number (payload kind p) ≡ reading false number p
unfolding reading
in_channel Header number p =
    let long : nat_le 4 (length (16 ∷ 0 ∷ 0 ∷ 33 ∷ p)) ≡ true = grind (arith, nat_tests) in
    rw long refl
in_channel Alert number p = refl
in_channel Expiry number p = refl

-- an IPv4 packet without what follows it is one
pub cut_is_ip : (q : List ℕ) → is_ip_packet q ≡ true → 28 ≤ total_length q → total_length q ≤ length q → is_ip_packet (take (total_length q) q) ≡ true
cut_is_ip q is least within =
    let t : ℕ = total_length q in
    let parts = and_parts (is_whole_icmp q) (is_of_length q) is in
    let bounds = and_parts (nat_le 28 t) (nat_le t 1500 && nat_le t (length q)) parts.1 in
    let most = and_parts (nat_le t 1500) (nat_le t (length q)) bounds.1 in
    let version : get_or (take t q) 0 0 ≡ get_or q 0 0 = get_or-take t q 0 0 (omega arith) in
    let fragment : pair_at (take t q) 6 ≡ pair_at q 6 = pair_take t q 6 (omega arith) in
    let protocol : get_or (take t q) 9 0 ≡ get_or q 9 0 = get_or-take t q 9 0 (omega arith) in
    let count : total_length (take t q) ≡ t = pair_take t q 2 (omega arith) in
    let size : length (take t q) ≡ t = length-take-le t q within in
    let fits : nat_le t t ≡ true = grind (arith, nat_tests) in
    rw (version, fragment, protocol, count, size, parts.0, bounds.0, most.0, fits) refl

-- each answer of a reader, by what it tested
pub reads_version : (channel : Bool) (number : ℕ) (octets : List ℕ) → has_fault channel number octets Version ≡ true → Err Version ≡ reading channel number octets
unfolding reading
reads_version channel number octets version = rw version refl

pub reads_channel : (channel : Bool) (number : ℕ) (octets : List ℕ) → has_fault channel number octets Version ≡ false → has_fault channel number octets Channel ≡ true → Err Channel
    ≡ reading channel number octets
unfolding reading
reads_channel channel number octets version kind = rw (version, kind) refl

pub reads_ip : (channel : Bool) (number : ℕ) (octets : List ℕ) → has_fault channel number octets Version ≡ false → has_fault channel number octets Channel ≡ false
    → is_ip_packet (behind_header channel octets) ≡ false → Err Ip ≡ reading channel number octets
unfolding reading
reads_ip channel number octets version kind ip = rw (version, kind, ip) refl

pub reads_checksum : (channel : Bool) (number : ℕ) (octets : List ℕ) → has_fault channel number octets Version ≡ false → has_fault channel number octets Channel ≡ false
    → is_ip_packet (behind_header channel octets) ≡ true → has_sums (ip_packet_of channel octets) ≡ false → Err Checksum ≡ reading channel number octets
unfolding reading
reads_checksum channel number octets version kind ip sums = rw (version, kind, ip, sums) refl

pub reads_icmp : (channel : Bool) (number : ℕ) (octets : List ℕ) → has_fault channel number octets Version ≡ false → has_fault channel number octets Channel ≡ false
    → is_ip_packet (behind_header channel octets) ≡ true → has_sums (ip_packet_of channel octets) ≡ true → is_echo number (ip_packet_of channel octets) ≡ false → Err Icmp
    ≡ reading channel number octets
unfolding reading
reads_icmp channel number octets version kind ip sums echo = rw (version, kind, ip, sums, echo) refl

pub reads_echo : (channel : Bool) (number : ℕ) (octets : List ℕ) → has_fault channel number octets Version ≡ false → has_fault channel number octets Channel ≡ false
    → is_ip_packet (behind_header channel octets) ≡ true → has_sums (ip_packet_of channel octets) ≡ true → is_echo number (ip_packet_of channel octets) ≡ true
    → Ok (echo_in (ip_packet_of channel octets)) ≡ reading channel number octets
unfolding reading
reads_echo channel number octets version kind ip sums echo = rw (version, kind, ip, sums, echo) refl

-- the IPv4 packet of a payload, by what was cut
pub cut_of : (rest q packet : List ℕ) (n : ℕ) → rest ≡ q → n ≡ pair_at rest 2 → packet ≡ take n rest → packet ≡ take (total_length q) q
cut_of rest q packet n same count cut = cut ∙ (ap (λ (m : ℕ). take m rest) count ∙ ap (λ (l : List ℕ). take (total_length l) l) same)
