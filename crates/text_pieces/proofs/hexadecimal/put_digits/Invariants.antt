use Rattle.std.proofs.Common.{◌≡◌, ◌≤◌, ◌-◌, ◌++◌, length, drop}
use Rattle.text_pieces.specs.Pieces.{hex}
use Rattle.text_pieces.proofs.hexadecimal.put_digits.Given as goal

abbrev pub invariant-adding : goal.invariant-adding
invariant-adding l = record {
  within : l.at ≤ length l.octets;
  told : l.text.items ++ hex (drop l.at l.octets) ≡ l.fn.text.items ++ hex l.octets;
}

abbrev pub decreases-adding : goal.decreases-adding
decreases-adding l = length l.octets - l.at
