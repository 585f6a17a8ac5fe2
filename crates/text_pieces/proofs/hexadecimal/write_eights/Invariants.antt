use Rattle.std.proofs.Common.{◌≡◌, ◌≤◌, ◌*◌, ◌-◌, ◌++◌, length, take, drop}
use Rattle.text_pieces.specs.Pieces.{hex}
use Rattle.text_pieces.proofs.hexadecimal.write_eights.Given as goal

abbrev pub invariant-writing : goal.invariant-writing
invariant-writing l = record {
  within : l.at ≤ length l.octets;
  told : take (2 * l.at) l.digits ++ hex (drop l.at l.octets) ≡ hex l.octets;
}

abbrev pub decreases-writing : goal.decreases-writing
decreases-writing l = length l.octets - l.at
