-- The reading of octets as a function, for definitions of other crates: of all octets the PDU that they spell, or their first
-- fault, with what shows it.
use Rattle.std.proofs.Common.{◌≡◌, ◌≤◌, ◌<◌, ◌⊎◌, ℕ, suc, true, false, List, [], ◌∷◌, Option, Some, None, inl, inr, refl, arith}
use Rattle.std.specs.Prelude.{IsSome}
use Rattle.std.proofs.lemmas.Bool.{cases_Bool, cases_lt, true≢false}
use Rattle.std.proofs.lemmas.Bool.Decides.{nat_tests}
use Rattle.ldp_grammar.specs.Reading.{Reading, are_octets}
use Rattle.ldp_grammar.proofs.OctetLemmas.{AreOctets, octet_front}
use Rattle.ldp_grammar.proofs.PduReading.{pdu_reading}

-- numbers that pass the test are octets, and octets pass it
pub octets_told : (bytes : List ℕ) → are_octets bytes ≡ true → AreOctets bytes
octets_told [] passed = λ i. omega arith
octets_told (x ∷ xs) passed =
    let head : x < 256 = grind (arith, nat_tests, passed) in
    let tail : are_octets xs ≡ true = grind (arith, nat_tests, passed) in
    octet_front x xs head (octets_told xs tail)

pub octets_pass : (bytes : List ℕ) → AreOctets bytes → are_octets bytes ≡ true
octets_pass [] octets = refl
octets_pass (x ∷ xs) octets =
    let head : x < 256 = octets 0 in
    let tail : are_octets xs ≡ true = octets_pass xs (λ i. octets (suc i)) in
    grind (arith, nat_tests, head, tail)

-- the reading, where they are octets and the maximum is one of a session
abbrev pub reading_where : (bytes : List ℕ) (max : ℕ) → (are_octets bytes ≡ true) ⊎ (are_octets bytes ≡ false) → (4096 < max) ⊎ (max ≤ 4096) → Option (Reading bytes max)
reading_where bytes max (inl are) (inr small) = Some (pdu_reading bytes max (octets_told bytes are) small)
reading_where bytes max (inl are) (inl large) = None
reading_where bytes max (inr other) size = None

abbrev pub reading_of : (bytes : List ℕ) (max : ℕ) → Option (Reading bytes max)
reading_of bytes max = reading_where bytes max (cases_Bool (are_octets bytes)) (cases_lt 4096 max)

told_where : (bytes : List ℕ) (max : ℕ) (are : (are_octets bytes ≡ true) ⊎ (are_octets bytes ≡ false)) (size : (4096 < max) ⊎ (max ≤ 4096)) → are_octets bytes ≡ true → max ≤ 4096
    → IsSome (reading_where bytes max are size)
told_where bytes max (inl are) (inr small) passed within = refl
told_where bytes max (inl are) (inl large) passed within = absurd (omega (arith, large, within))
told_where bytes max (inr other) size passed within = absurd (true≢false (grind (arith, passed, other)))

-- of all octets there is one
pub reading_told : (bytes : List ℕ) (max : ℕ) → AreOctets bytes → max ≤ 4096 → IsSome (reading_of bytes max)
reading_told bytes max octets small = told_where bytes max (cases_Bool (are_octets bytes)) (cases_lt 4096 max) (octets_pass bytes octets) small
