use Rattle.std.proofs.Common.{ℕ, arith, slice_index}
use Rattle.hex.specs.Hex.{lower_digits}
use Rattle.hex.proofs.Pairs.{encode_step, encode_done}
use Rattle.text_pieces.proofs.PairLemmas.{high_digit, low_digit}
use Rattle.text_pieces.proofs.hexadecimal.write_digits.Goals as goal

pub writing-preserved : goal.writing-preserved
writing-preserved c =
    let octet : ℕ = slice_index c.args.octets.now c.writing.i in
    encode_step lower_digits c.args.octets.now c.writing.digits c.writing.i _ _ (omega arith) (omega arith) (high_digit octet (omega arith)) (low_digit octet (omega arith)) c.writing.invariant

pub returns : goal.returns
returns c = encode_done lower_digits _ _ c.writing.i (omega arith) (omega arith) c.writing.invariant
