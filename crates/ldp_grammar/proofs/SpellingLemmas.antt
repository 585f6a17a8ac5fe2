-- Octets of TLVs and of messages.
use Rattle.std.proofs.Common.{◌≡◌, ◌+◌, ◌++◌, length, arith}
use Rattle.net_values.proofs.RowLemmas.{same_front}
use Rattle.ldp_grammar.specs.Tlvs.{spell_tlv, IsTlv}
use Rattle.ldp_grammar.specs.Spells.{spell_message, IsSpelling}
use Rattle.ldp_grammar.proofs.OctetLemmas.{same_two, same_four}
use Rattle.ldp_grammar.proofs.ItemLemmas.{ArePrefixFree}

pub tlvs_apart : ArePrefixFree spell_tlv IsTlv
tlvs_apart s t more rest is_s is_t e =
    let word : s.word ≡ t.word = same_two s.word t.word is_s.0 is_t.0 (cc (e)) (cc (e)) in
    let len : length s.value ≡ length t.value = same_two (length s.value) (length t.value) is_s.1 is_t.1 (cc (e)) (cc (e)) in
    let tail : s.value ++ more ≡ t.value ++ rest = cc (e) in
    let (value, left) = same_front s.value t.value more rest len tail in
    ((λ i. record { word = word i; value = value i }), left)

pub messages_apart : ArePrefixFree spell_message IsSpelling
messages_apart s t more rest is_s is_t e =
    let word : s.word ≡ t.word = same_two s.word t.word is_s.0 is_t.0 (cc (e)) (cc (e)) in
    let len : 4 + length s.body ≡ 4 + length t.body = same_two (4 + length s.body) (4 + length t.body) is_s.1 is_t.1 (cc (e)) (cc (e)) in
    let id : s.id ≡ t.id = same_four s.id t.id is_s.2 is_t.2 (cc (e)) (cc (e)) (cc (e)) (cc (e)) in
    let tail : s.body ++ more ≡ t.body ++ rest = cc (e) in
    let (body, left) = same_front s.body t.body more rest (omega (arith, len)) tail in
    ((λ i. record { word = word i; id = id i; body = body i }), left)
