use Rattle.std.specs.Fmt.{decimal}
use Rattle.std.specs.Prelude.{◌++◌, codes}
use Rattle.text_lines.proofs.WrittenLemmas.{cut_first, puts_two}
use Rattle.survey_text.proofs.words.put_count.Goals as goal

pub returns-in-Ok : goal.returns-in-Ok
returns-in-Ok g c = puts_two _ _ _ _ (c.args.word.now) (codes " " ++ decimal c.args.number) c.in-Ok.ensures c.put_next.ensures

pub returns-in-Err : goal.returns-in-Err
returns-in-Err g c = cut_first _ _ (c.args.word.now) (codes " " ++ decimal c.args.number) c.in-Err.ensures
