-- The first word is put, and then those of the values, one by one.
use Rattle.std.proofs.Common.{rules, ◌≡◌, ◌<◌, ◌∙◌, length, refl, arith}
use Rattle.std.proofs.lemmas.List.{length-set}
use Rattle.text_lines.specs.declared.line_word.LineWord.TheVariants.{Text}
use Rattle.line_shapes.specs.Shapes.{value_words}
use Rattle.line_shapes.proofs.WordLemmas.{words_first, words_more}
use Rattle.line_shapes.proofs.writer.write_words.Goals as goal

pub loop-place-init : goal.loop-place-init
loop-place-init c =
    let size : length c.args.room.now ≡ 4 = search rules in (
      words_first c.args.room.now (Text c.args.shape.0) (value_words c.args.plan.now c.args.shape.1.now c.args.values.now) (omega (arith, size)),
      refl,
      length-set c.args.room.now 0 (Text c.args.shape.0) ∙ size,
    )

pub loop-place-preserved : goal.loop-place-preserved
loop-place-preserved c =
    let few : c.loop-place.count < length c.loop-place.room = omega (arith, c.loop-place.invariant, c.loop-place-test.true, c.requires.few) in (
      words_more c.args.plan.now c.args.shape.1.now c.args.values.now c.loop-place.room c.loop-place.count c.loop-place.place _ c.word.result _ c.loop-place-test.true few
          c.word.ensures c.at.ensures c.loop-place.invariant.0,
      omega (arith, c.loop-place.invariant.1),
      length-set c.loop-place.room c.loop-place.count c.word.result ∙ c.loop-place.invariant.2,
    )
