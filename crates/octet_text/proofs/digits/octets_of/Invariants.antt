-- What is decoded so far, and then the rest, is what the definition decodes.
use Rattle.std.proofs.Common.{◌≡◌, ◌≤◌, ◌-◌, ◌++◌, length, drop, option_map}
use Rattle.octet_text.specs.Hex.{digits_in, unhex}
use Rattle.octet_text.proofs.digits.octets_of.Given as goal

abbrev pub invariant-decoding : goal.invariant-decoding
invariant-decoding l = (option_map (λ xs. l.octets ++ xs) (unhex (drop l.at (digits_in l.capitals l.digits))) ≡ unhex (digits_in l.capitals l.digits)) × (l.at ≤ length l.digits)

abbrev pub decreases-decoding : goal.decreases-decoding
decreases-decoding l = length l.digits - l.at
