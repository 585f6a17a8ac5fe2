use Rattle.std.proofs.Common.{arith}
use Rattle.std.proofs.lemmas.Grind.{common_steps}
use Rattle.text_lines.proofs.WrittenLemmas.{appends_more, take_front}
use Rattle.text_lines.proofs.whole.write_text.Goals as goal

pub writing-preserved : goal.writing-preserved
writing-preserved g c = record {
  within = grind (arith, common_steps);
  taken = appends_more _ _ _ _ _ _ (take_front c.writing.at c.in_ok-count.count c.args.text.now c.writing.invariant.within) c.writing.invariant.taken c.in_ok-count.ensures.taken;
  faults = grind (arith, common_steps);
}
