-- A number of 32 bits has at most ten digits.
use Rattle.std.proofs.Common.{arith}
use Rattle.message_text.proofs.LaidLemmas.{number_length}
use Rattle.message_text.proofs.laid.lay_number.Goals as goal

pub lay_digits-requires : goal.lay_digits-requires
lay_digits-requires c = (omega (arith, number_length c.from.result (omega arith)), omega arith)

pub returns-clause-start : goal.returns-clause-start
returns-clause-start c = omega (arith, number_length c.from.result (omega arith))
