use Rattle.std.proofs.Common.{◌∙◌, ap, arith}
use Rattle.text_pieces.specs.Pieces.{hex}
use Rattle.text_pieces.proofs.HexLemmas.{sixteen_written}
use Rattle.text_pieces.proofs.hexadecimal.write_eights.Goals as goal

pub writing-preserved : goal.writing-preserved
writing-preserved c = record {
  within = omega arith;
  told = sixteen_written c.writing.digits c.args.octets.now c.sixteen.result c.put_sixteen.new.digits c.writing.at (omega arith) (omega arith) (omega arith)
      (c.sixteen.ensures ∙ ap hex c.eight_at.ensures) c.put_sixteen.ensures c.writing.invariant.told;
}
