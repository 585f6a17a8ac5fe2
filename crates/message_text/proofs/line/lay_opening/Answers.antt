-- The place of a PDU has at most twenty digits.
use Rattle.std.proofs.Common.{arith}
use Rattle.std.proofs.lemmas.Fmt.{length-decimal-le}
use Rattle.message_text.proofs.line.lay_opening.Goals as goal

pub lay_digits-requires : goal.lay_digits-requires
lay_digits-requires c = (omega (arith, length-decimal-le 20 c.args.base (omega arith) (omega arith) (omega arith)), omega arith)
