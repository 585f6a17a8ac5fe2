-- What is written is octets, where the values of its TLVs are.
use Rattle.std.proofs.Common.{◌<◌, ◌+◌, ◌/◌, ◌%◌, ◌++◌, ℕ, suc, List, [], ◌∷◌, length, flat_map, arith}
use Rattle.std.specs.List.{AllByRecursion}
use Rattle.ldp_grammar.specs.declared.ldp_id.LdpId.{LdpId}
use Rattle.ldp_grammar.specs.declared.message.Message.{Message}
use Rattle.ldp_grammar.specs.declared.session_params.SessionParams.{SessionParams}
use Rattle.ldp_grammar.specs.declared.status_code.StatusCode.{StatusCode}
use Rattle.ldp_grammar.specs.Octets.{two, four}
use Rattle.ldp_grammar.specs.Tlvs.{Tlv, spell_tlv}
use Rattle.ldp_grammar.specs.Written.{bit_as, id_octets, message_octets, session_octets, status_octets, written, written_spelling, written_tlvs}
use Rattle.ldp_grammar.proofs.OctetLemmas.{AreOctets, octet_front}

pub no_octets : AreOctets []
no_octets i = omega arith

pub octets_append : (xs ys : List ℕ) → AreOctets xs → AreOctets ys → AreOctets (xs ++ ys)
octets_append [] ys front back = back
octets_append (x ∷ xs) ys front back = octet_front x (xs ++ ys) (front 0) (octets_append xs ys (λ i. front (suc i)) back)

-- a number in two octets, and in four
pub two_octets : (n : ℕ) → AreOctets (two n)
two_octets n = octet_front (n / 256 % 256) (n % 256 ∷ []) (omega arith) (octet_front (n % 256) [] (omega arith) no_octets)

pub four_octets : (n : ℕ) → AreOctets (four n)
four_octets n = octet_front (n / 16777216 % 256) (n / 65536 % 256 ∷ n / 256 % 256 ∷ n % 256 ∷ []) (omega arith)
    (octet_front (n / 65536 % 256) (n / 256 % 256 ∷ n % 256 ∷ []) (omega arith)
    (octet_front (n / 256 % 256) (n % 256 ∷ []) (omega arith)
    (octet_front (n % 256) [] (omega arith) no_octets)))

-- TLVs with values of octets
abbrev pub HaveOctets : List Tlv → Type 0
HaveOctets ts = AllByRecursion (λ t. AreOctets t.value) ts

tlvs_octets : (ts : List Tlv) → HaveOctets ts → AreOctets (flat_map spell_tlv ts)
tlvs_octets [] all = no_octets
tlvs_octets (t ∷ ts) all =
    octets_append (spell_tlv t) (flat_map spell_tlv ts)
    (octets_append (two t.word) (two (length t.value) ++ t.value) (two_octets t.word) (octets_append (two (length t.value)) t.value (two_octets (length t.value)) all.0))
    (tlvs_octets ts all.1)

message_are : (m : Message) → HaveOctets (written_tlvs m) → AreOctets (message_octets m)
message_are m all =
    let s = written_spelling m in
    octets_append (two s.word) (two (4 + length s.body) ++ (four s.id ++ s.body)) (two_octets s.word)
    (octets_append (two (4 + length s.body)) (four s.id ++ s.body) (two_octets (4 + length s.body))
    (octets_append (four s.id) s.body (four_octets s.id) (tlvs_octets (written_tlvs m) all)))

pub id_are : (id : LdpId) → AreOctets id.router.0 → AreOctets (id_octets id)
id_are id router = octets_append id.router.0 (two id.space) router (two_octets id.space)

-- a PDU with the message alone
pub written_are : (m : Message) (id : LdpId) → HaveOctets (written_tlvs m) → AreOctets id.router.0 → AreOctets (written m id)
written_are m id all router =
    let size = 6 + length (message_octets m) in
    octets_append (two 1 ++ (two size ++ id_octets id)) (message_octets m)
    (octets_append (two 1) (two size ++ id_octets id) (two_octets 1) (octets_append (two size) (id_octets id) (two_octets size) (id_are id router)))
    (message_are m all)

-- the values of a session's messages
pub status_are : (s : StatusCode) → AreOctets (status_octets s)
status_are s =
    let first = bit_as 31 s.fatal + bit_as 30 s.forward + s.code in
    octets_append (four first) (four s.message ++ two s.kind) (four_octets first) (octets_append (four s.message) (two s.kind) (four_octets s.message) (two_octets s.kind))

pub session_are : (p : SessionParams) → bit_as 7 p.demand + bit_as 6 p.loops < 256 → p.limit < 256 → AreOctets p.receiver.router.0 → AreOctets (session_octets p)
session_are p bits limit router =
    let flags = bit_as 7 p.demand + bit_as 6 p.loops in
    octets_append (two p.version) (two p.keepalive ++ ((flags ∷ p.limit ∷ []) ++ (two p.max_pdu ++ id_octets p.receiver))) (two_octets p.version)
    (octets_append (two p.keepalive) ((flags ∷ p.limit ∷ []) ++ (two p.max_pdu ++ id_octets p.receiver)) (two_octets p.keepalive)
    (octets_append (flags ∷ p.limit ∷ []) (two p.max_pdu ++ id_octets p.receiver) (octet_front flags (p.limit ∷ []) bits (octet_front p.limit [] limit no_octets))
    (octets_append (two p.max_pdu) (id_octets p.receiver) (two_octets p.max_pdu) (id_are p.receiver router))))
