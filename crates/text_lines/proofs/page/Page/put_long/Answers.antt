use Rattle.std.proofs.Common.{arith}
use Rattle.std.proofs.lemmas.Fmt.{length-decimal-le}
use Rattle.text_lines.proofs.page.Page.put_long.Goals as goal

pub write_digits-begin-requires : goal.write_digits-begin-requires
write_digits-begin-requires g c = (length-decimal-le 20 c.args.number (omega arith) (omega arith) (omega arith), omega arith)
