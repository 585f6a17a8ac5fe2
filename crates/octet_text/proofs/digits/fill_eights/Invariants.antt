-- What is written so far, and then the rest, is what the definition decodes.
use Rattle.std.proofs.Common.{◌≡◌, ◌≤◌, ◌-◌, ◌*◌, ◌%◌, length}
use Rattle.octet_text.specs.Hex.{digits_in, unhex}
use Rattle.octet_text.proofs.HexLemmas.{filled}
use Rattle.octet_text.proofs.digits.fill_eights.Given as goal

abbrev pub invariant-filling : goal.invariant-filling
invariant-filling l = (filled (digits_in l.capitals l.digits) l.room l.at l.all ≡ unhex (digits_in l.capitals l.digits)) × (l.at ≤ length l.room) × ((length l.room - l.at) % 8 ≡ 0) × (length l.digits ≡ 2 * length l.room)
    × (length l.room ≡ length l.fn.room)

abbrev pub decreases-filling : goal.decreases-filling
decreases-filling l = length l.room - l.at
