-- What is added so far, and then the other words, is all.
use Rattle.std.proofs.Common.{◌≡◌, ◌++◌, drop, map}
use Rattle.text_lines.specs.Lines.{word_octets}
use Rattle.text_pieces.specs.Pieces.{spaced}
use Rattle.migration.proofs.commands.put_spaced.Given as goal

abbrev pub invariant-loop-word : goal.invariant-loop-word
invariant-loop-word l = l.text.items ++ spaced (map word_octets (drop l.word-index l.words)) ≡ l.fn.text.items ++ spaced (map word_octets l.words)
