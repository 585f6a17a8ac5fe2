-- A packet that is written in its parts.
use Rattle.std.proofs.Common.{◌≡◌, ◌+◌, ◌++◌, ◌∙◌, ℕ, List, length, take, drop, ap, sym, arith, append_assoc, length-append}
use Rattle.vccv_channel.specs.Checksum.{summed}
use Rattle.vccv_channel.proofs.OctetLemmas.{added_behind}

pub summed_length : (front back : List ℕ) → length (summed front back) ≡ length front + (2 + length back)
summed_length front back = simp length-append (omega arith)

-- the parts stand one behind another, and the rest is as it was
pub packet_written : (base stack channel header message one two three : List ℕ) (begin middle end : ℕ)
    → begin ≡ length (stack ++ channel) → one ≡ (stack ++ channel) ++ drop begin base
    → middle ≡ begin + length header → two ≡ (take begin one ++ header) ++ drop middle one
    → end ≡ middle + length message → three ≡ (take middle two ++ message) ++ drop end two
    → three ≡ (stack ++ (channel ++ (header ++ message))) ++ drop end base
packet_written base stack channel header message one two three begin middle end eb o em t ee h =
    let second = added_behind base (stack ++ channel) header one two begin middle o eb em t in
    let place : middle ≡ length ((stack ++ channel) ++ header) = em ∙ (ap (λ (n : ℕ). n + length header) eb ∙ sym (length-append (stack ++ channel) header)) in
    let third = added_behind base ((stack ++ channel) ++ header) message two three middle end second place ee h in
    let joined : ((stack ++ channel) ++ header) ++ message ≡ stack ++ (channel ++ (header ++ message)) = simp append_assoc in
    third ∙ ap (λ (l : List ℕ). l ++ drop end base) joined

-- the count of the parts
pub packet_length : (stack channel header message : List ℕ) (begin middle end : ℕ)
    → begin ≡ length (stack ++ channel) → middle ≡ begin + length header → end ≡ middle + length message
    → end ≡ length (stack ++ (channel ++ (header ++ message)))
packet_length stack channel header message begin middle end eb em ee =
    let a = length-append stack channel in
    let b = length-append stack (channel ++ (header ++ message)) in
    let c = length-append channel (header ++ message) in
    let d = length-append header message in
    omega (arith, eb, em, ee, a, b, c, d)
