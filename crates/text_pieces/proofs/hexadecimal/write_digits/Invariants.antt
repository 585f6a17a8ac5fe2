use Rattle.std.proofs.Common.{◌≡◌, ◌*◌, ◌++◌, take, drop}
use Rattle.text_pieces.specs.Pieces.{hex}
use Rattle.text_pieces.proofs.hexadecimal.write_digits.Given as goal

abbrev pub invariant-writing : goal.invariant-writing
invariant-writing l = take (2 * l.i) l.digits ++ hex (drop l.i l.octets) ≡ hex l.octets
