-- What is written so far, and then the rest, is what the definition decodes.
use Rattle.std.proofs.Common.{◌≡◌, nat_lt}
use Rattle.octet_text.specs.Hex.{digits_in, unhex}
use Rattle.octet_text.proofs.HexLemmas.{filled}
use Rattle.octet_text.proofs.digits.fill_pairs.Given as goal

abbrev pub invariant-filling : goal.invariant-filling
invariant-filling l = filled (digits_in l.capitals l.digits) l.room l.i (nat_lt l.joined 256) ≡ unhex (digits_in l.capitals l.digits)
