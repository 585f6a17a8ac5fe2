-- The words so far, and then those of the values that are left, are the words of the line.
use Rattle.std.proofs.Common.{◌≡◌, ◌+◌, ◌++◌, drop, length, map, take}
use Rattle.text_lines.specs.Lines.{word_octets}
use Rattle.line_shapes.specs.Shapes.{form_of, row_words, value_words}
use Rattle.line_shapes.proofs.WordLemmas.{values_from}
use Rattle.line_shapes.proofs.writer.write_words.Given as goal

abbrev pub invariant-loop-place : goal.invariant-loop-place
invariant-loop-place l =
    (map word_octets (take l.count l.room) ++ value_words l.plan (drop l.place l.kinds) (values_from l.place l.values) ≡ row_words l.plan (form_of l.shape) l.values)
    × (l.count ≡ l.place + 1) × (length l.room ≡ 4)
