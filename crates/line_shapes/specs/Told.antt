-- The words of a line as they are put.
use Rattle.std.specs.Prelude.{ℕ, List, map, take}
use Rattle.text_lines.specs.Lines.{word_octets}
use Rattle.line_shapes.specs.declared.shaped_words.ShapedWords.{ShapedWords}

-- the octets of each word, in order
abbrev pub words_told : ShapedWords → List (List ℕ)
words_told words = map word_octets (take words.count words.words)
