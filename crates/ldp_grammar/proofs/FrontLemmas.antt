-- The TLV and the message at the front of octets, where one stands whole.
use Rattle.std.proofs.Common.{◌≡◌, ◌≤◌, ◌<◌, ◌+◌, ◌-◌, ◌++◌, ℕ, suc, List, [], ◌∷◌, length, take, drop, refl, sym, ap, ◌∙◌, length-take, length-drop, arith, inl, inr}
use Rattle.std.proofs.lemmas.Bool.{cases_lt}
use Rattle.std.proofs.lemmas.List.{take-append-drop}
use Rattle.ldp_grammar.specs.Octets.{two, four, two_at, four_at}
use Rattle.ldp_grammar.specs.Tlvs.{IsTlv, spell_tlv}
use Rattle.ldp_grammar.specs.Spells.{Spelling, spell_message, IsSpelling}
use Rattle.ldp_grammar.specs.FirstFault.{CutsMessage}
use Rattle.ldp_grammar.proofs.OctetLemmas.{AreOctets, two_read, four_read, octets_drop, octets_take}

-- the octets of two numbers stand in front
pub numbers_read : (rest : List ℕ) → AreOctets rest → 4 ≤ length rest → two (two_at 0 rest) ++ (two (two_at 2 rest) ++ drop 4 rest) ≡ rest
numbers_read [] octets long = absurd (omega arith)
numbers_read (a ∷ []) octets long = absurd (omega arith)
numbers_read (a ∷ b ∷ rest) octets long =
    let back : two (two_at 0 rest) ++ drop 2 rest ≡ rest = two_read rest (λ i. octets (suc (suc i))) (omega arith) in
    ap (λ (l : List ℕ). two (two_at 0 (a ∷ b ∷ rest)) ++ l) back ∙ two_read (a ∷ b ∷ rest) octets (omega arith)

-- a number of two octets, and of four
pub two_below : (xs : List ℕ) → AreOctets xs → two_at 0 xs < 65536
two_below xs octets = omega (arith, octets 0, octets 1)

four_below : (xs : List ℕ) → AreOctets xs → four_at 0 xs < 4294967296
four_below xs octets = omega (arith, octets 0, octets 1, octets 2, octets 3)

-- what stands where a TLV should begin: too few octets, a Length past the end, or a TLV
pub data TlvFront (rest : List ℕ) : Type 0 where
  short : length rest < 4 → TlvFront rest
  past : 4 ≤ length rest → length rest < 4 + two_at 2 rest → TlvFront rest
  tlv : (value more : List ℕ) → rest ≡ spell_tlv (record { word = two_at 0 rest; value = value }) ++ more → IsTlv (record { word = two_at 0 rest; value = value }) → TlvFront rest

tlv_whole : (rest : List ℕ) → AreOctets rest → 4 ≤ length rest → 4 + two_at 2 rest ≤ length rest → TlvFront rest
tlv_whole rest octets long within =
    let len : ℕ = two_at 2 rest in
    let size : length (take len (drop 4 rest)) ≡ len = omega (arith, length-take len (drop 4 rest), length-drop 4 rest, within) in
    let two_len : two (length (take len (drop 4 rest))) ≡ two (two_at 2 rest) = ap two size in
    let value : take len (drop 4 rest) ++ drop len (drop 4 rest) ≡ drop 4 rest = take-append-drop len (drop 4 rest) in
    tlv (take len (drop 4 rest)) (drop len (drop 4 rest))
    (sym ((λ i. two (two_at 0 rest) ++ (two_len i ++ value i)) ∙ numbers_read rest octets long))
    (two_below rest octets, omega (arith, size, two_below (drop 2 rest) (octets_drop 2 rest octets)))

pub tlv_front : (rest : List ℕ) → AreOctets rest → TlvFront rest
tlv_front rest octets = elim (cases_lt (length rest) 4) [
  | inl few ↦ short few
  | inr long ↦ elim (cases_lt (length rest) (4 + two_at 2 rest)) [
    | inl far ↦ past long far
    | inr within ↦ tlv_whole rest octets long within
  ]
]

-- what stands where a message should begin: nothing whole, or a message
pub data MessageFront (rest : List ℕ) : Type 0 where
  cut : (place : ℕ) → CutsMessage rest place → place < length rest → MessageFront rest
  message : (s : Spelling) (more : List ℕ) → rest ≡ spell_message s ++ more → IsSpelling s → AreOctets s.body → AreOctets more → MessageFront rest

message_whole : (rest : List ℕ) → AreOctets rest → 4 ≤ length rest → 4 ≤ two_at 2 rest → 4 + two_at 2 rest ≤ length rest → MessageFront rest
message_whole rest octets long least within =
    let len : ℕ = two_at 2 rest in
    let counted : List ℕ = take len (drop 4 rest) in
    let rest_octets : AreOctets (drop 4 rest) = octets_drop 4 rest octets in
    let counted_octets : AreOctets (take len (drop 4 rest)) = octets_take len (drop 4 rest) rest_octets in
    let size : length (take len (drop 4 rest)) ≡ len = omega (arith, length-take len (drop 4 rest), length-drop 4 rest, within) in
    let body : length (drop 4 (take len (drop 4 rest))) ≡ len - 4 = omega (arith, size, length-drop 4 (take len (drop 4 rest))) in
    let two_len : two (4 + length (drop 4 (take len (drop 4 rest)))) ≡ two (two_at 2 rest) = ap two (omega (arith, body, least)) in
    let four_id : four (four_at 0 counted) ++ drop 4 (take len (drop 4 rest)) ≡ take len (drop 4 rest) = four_read (take len (drop 4 rest)) counted_octets (omega (arith, size, least)) in
    let value : (four (four_at 0 counted) ++ drop 4 (take len (drop 4 rest))) ++ drop len (drop 4 rest) ≡ drop 4 rest =
    ap (λ (l : List ℕ). l ++ drop len (drop 4 rest)) four_id ∙ take-append-drop len (drop 4 rest) in
    message (record { word = two_at 0 rest; id = four_at 0 counted; body = drop 4 counted }) (drop len (drop 4 rest))
    (sym ((λ i. two (two_at 0 rest) ++ (two_len i ++ value i)) ∙ numbers_read rest octets long))
    (two_below rest octets, omega (arith, body, least, two_below (drop 2 rest) (octets_drop 2 rest octets)), four_below (take len (drop 4 rest)) counted_octets)
    (octets_drop 4 (take len (drop 4 rest)) counted_octets) (octets_drop len (drop 4 rest) rest_octets)

pub message_front : (rest : List ℕ) → AreOctets rest → 0 < length rest → MessageFront rest
message_front rest octets some = elim (cases_lt (length rest) 4) [
  | inl few ↦ cut 0 (inl (some, few, refl)) some
  | inr long ↦ elim (cases_lt (two_at 2 rest) 4) [
    | inl less ↦ cut 2 (inr (long, inl less, refl)) (omega (arith, long))
    | inr least ↦ elim (cases_lt (length rest) (4 + two_at 2 rest)) [
      | inl far ↦ cut 2 (inr (long, inr far, refl)) (omega (arith, long))
      | inr within ↦ message_whole rest octets long least within
    ]
  ]
]
