-- A word more was found.
use Rattle.std.proofs.Common.{◌<◌, ◌∙◌, length, take, arith}
use Rattle.std.proofs.lemmas.List.{length-set}
use Rattle.script_text.specs.Script.{words_of}
use Rattle.report_entries.proofs.WordLemmas.{words_put, words_put_last}
use Rattle.report_entries.proofs.cut.first_words.Goals as goal

pub cutting-preserved : goal.cutting-preserved
cutting-preserved c =
    let few : c.cutting.count < length c.args.room.now = omega (arith, c.cutting-test.true) in (
      words_put c.cutting.room c.cut_at.result.0 c.cutting.count (length c.args.room.now) c.cutting.rest.now c.cut_at.result.1 c.in-Some.behind (take (length c.args.room.now) (words_of c.args.line.now))
          few c.cutting.invariant.2 c.cut_at.ensures.front c.cut_at.ensures.behind c.in-Some.is c.cutting.invariant.0,
      omega (arith, few),
      length-set c.cutting.room c.cutting.count c.cut_at.result.0 ∙ c.cutting.invariant.2,
    )

pub returns-in-None-clause-words : goal.returns-in-None-clause-words
returns-in-None-clause-words c =
    words_put_last c.cutting.room c.cut_at.result.0 c.cutting.count (length c.args.room.now) c.cutting.rest.now c.cut_at.result.1 (take (length c.args.room.now) (words_of c.args.line.now))
    (omega (arith, c.cutting-test.true)) c.cutting.invariant.2 c.cut_at.ensures.front c.cut_at.ensures.behind c.in-None.is c.cutting.invariant.0
