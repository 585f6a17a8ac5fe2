-- The digits were written at the end of their room's front, and added with what stands behind them.
use Rattle.std.proofs.Common.{◌+◌, ◌-◌, ℕ, arith}
use Rattle.std.specs.Fmt.{decimal}
use Rattle.std.proofs.lemmas.Fmt.{length-decimal-le}
use Rattle.text_pieces.proofs.CutLemmas.{cut_behind}
use Rattle.text_pieces.proofs.pieces.put_short.Goals as goal

pub write_digits-begin-requires : goal.write_digits-begin-requires
write_digits-begin-requires c = (length-decimal-le 8 c.args.number (omega arith) (omega arith) (omega arith), omega arith)

pub returns : goal.returns
returns c =
    let written = c.write_digits-begin.ensures in
    let begin : ℕ = c.write_digits-begin.result in
    cut_behind c.args.text.now.items c.extend_from_slice.new.self.items c.truncate.new.self.items c.write_digits-begin.new.buf (decimal c.args.number) _
    begin (begin + 8 - begin) (c.len-before.result + (8 - begin)) written.written c.in_ok-extend_from_slice.ensures.items c.truncate.ensures.items
    (omega (arith, written.start, c.len-before.ensures)) (omega (arith, written.start))
