-- Each answer is that of the tests before it.
use Rattle.std.proofs.Common.{◌≡◌, ◌∙◌, true, false, Ok, ap, sym}
use Rattle.vccv_channel.specs.declared.echo.Echo.{Echo}
use Rattle.vccv_channel.specs.Reading.{is_ip_packet, has_sums, is_echo, echo_in, behind_header, ip_packet_of}
use Rattle.vccv_channel.proofs.ReadingLemmas.{reads_version, reads_channel, reads_ip, reads_checksum, reads_icmp, reads_echo, cut_of}
use Rattle.vccv_channel.proofs.LawLemmas.{cut_is_request}
use Rattle.vccv_channel.proofs.reading.read_echo.Goals as goal

pub returns-then-has_wrong_version-clause-reads : goal.returns-then-has_wrong_version-clause-reads
returns-then-has_wrong_version-clause-reads c =
    reads_version c.args.channel c.args.number c.args.payload.now (sym (c.has_wrong_version.ensures.is c.args.number) ∙ c.if-has_wrong_version.true)

pub returns-then-has_wrong_channel-clause-reads : goal.returns-then-has_wrong_channel-clause-reads
returns-then-has_wrong_channel-clause-reads c =
    reads_channel c.args.channel c.args.number c.args.payload.now (sym (c.has_wrong_version.ensures.is c.args.number) ∙ c.if-has_wrong_version.false)
    (sym (c.has_wrong_channel.ensures c.args.number) ∙ c.if-has_wrong_channel.true)

pub returns-then-not-is_ip_packet-clause-reads : goal.returns-then-not-is_ip_packet-clause-reads
returns-then-not-is_ip_packet-clause-reads c =
    let ip : is_ip_packet (behind_header c.args.channel c.args.payload.now) ≡ false = ap is_ip_packet (sym c.behind-rest.ensures) ∙ (sym c.is_ip_packet.ensures.is ∙ c.if-not-is_ip_packet.true) in
    reads_ip c.args.channel c.args.number c.args.payload.now (sym (c.has_wrong_version.ensures.is c.args.number) ∙ c.if-has_wrong_version.false)
    (sym (c.has_wrong_channel.ensures c.args.number) ∙ c.if-has_wrong_channel.false) ip

pub returns-then-not-has_sums-clause-reads : goal.returns-then-not-has_sums-clause-reads
returns-then-not-has_sums-clause-reads c =
    let q = behind_header c.args.channel c.args.payload.now in
    let ip : is_ip_packet q ≡ true = ap is_ip_packet (sym c.behind-rest.ensures) ∙ (sym c.is_ip_packet.ensures.is ∙ c.if-not-is_ip_packet.false) in
    let packet = cut_of c.behind-rest.result.now q c.split_at.result.0.now c.pair.result c.behind-rest.ensures c.pair.ensures c.split_at.ensures.front in
    let sums : has_sums (ip_packet_of c.args.channel c.args.payload.now) ≡ false = ap has_sums (sym packet) ∙ (sym c.has_sums.ensures ∙ c.if-not-has_sums.true) in
    reads_checksum c.args.channel c.args.number c.args.payload.now (sym (c.has_wrong_version.ensures.is c.args.number) ∙ c.if-has_wrong_version.false)
    (sym (c.has_wrong_channel.ensures c.args.number) ∙ c.if-has_wrong_channel.false) ip sums

pub returns-then-not-is_echo-clause-reads : goal.returns-then-not-is_echo-clause-reads
returns-then-not-is_echo-clause-reads c =
    let q = behind_header c.args.channel c.args.payload.now in
    let ip : is_ip_packet q ≡ true = ap is_ip_packet (sym c.behind-rest.ensures) ∙ (sym c.is_ip_packet.ensures.is ∙ c.if-not-is_ip_packet.false) in
    let packet = cut_of c.behind-rest.result.now q c.split_at.result.0.now c.pair.result c.behind-rest.ensures c.pair.ensures c.split_at.ensures.front in
    let sums : has_sums (ip_packet_of c.args.channel c.args.payload.now) ≡ true = ap has_sums (sym packet) ∙ (sym c.has_sums.ensures ∙ c.if-not-has_sums.false) in
    let echo : is_echo c.args.number (ip_packet_of c.args.channel c.args.payload.now) ≡ false = ap (is_echo c.args.number) (sym packet) ∙ (sym c.is_echo.ensures ∙ c.if-not-is_echo.true) in
    reads_icmp c.args.channel c.args.number c.args.payload.now (sym (c.has_wrong_version.ensures.is c.args.number) ∙ c.if-has_wrong_version.false)
    (sym (c.has_wrong_channel.ensures c.args.number) ∙ c.if-has_wrong_channel.false) ip sums echo

pub returns-clause-reads : goal.returns-clause-reads
returns-clause-reads c =
    let q = behind_header c.args.channel c.args.payload.now in
    let ip : is_ip_packet q ≡ true = ap is_ip_packet (sym c.behind-rest.ensures) ∙ (sym c.is_ip_packet.ensures.is ∙ c.if-not-is_ip_packet.false) in
    let packet = cut_of c.behind-rest.result.now q c.split_at.result.0.now c.pair.result c.behind-rest.ensures c.pair.ensures c.split_at.ensures.front in
    let sums : has_sums (ip_packet_of c.args.channel c.args.payload.now) ≡ true = ap has_sums (sym packet) ∙ (sym c.has_sums.ensures ∙ c.if-not-has_sums.false) in
    let echo : is_echo c.args.number (ip_packet_of c.args.channel c.args.payload.now) ≡ true = ap (is_echo c.args.number) (sym packet) ∙ (sym c.is_echo.ensures ∙ c.if-not-is_echo.false) in
    ap (λ (e : Echo). Ok e) (c.echo_in.ensures ∙ ap echo_in packet)
    ∙ reads_echo c.args.channel c.args.number c.args.payload.now (sym (c.has_wrong_version.ensures.is c.args.number) ∙ c.if-has_wrong_version.false)
    (sym (c.has_wrong_channel.ensures c.args.number) ∙ c.if-has_wrong_channel.false) ip sums echo

pub returns-clause-request : goal.returns-clause-request
returns-clause-request c = λ from to sequence length e. cut_is_request c.args.channel c.args.number c.args.payload.now from to sequence length (sym (returns-clause-reads c) ∙ e)
