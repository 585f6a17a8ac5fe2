-- Lines of words.
use Rattle.std.specs.Prelude.{◌++◌, codes, ℕ, List, [], ◌∷◌}
use Rattle.std.specs.Fmt.{decimal}
use Rattle.text_pieces.specs.Pieces.{hex}
use Rattle.text_lines.specs.declared.line_word.LineWord.{LineWord}
use Rattle.text_lines.specs.declared.line_word.LineWord.TheVariants.{Text, Number, Labelled, Marked, Hex}

-- the octets of a word
abbrev pub word_octets : LineWord → List ℕ
word_octets (Text text) = text.now
word_octets (Number number) = decimal number
word_octets (Labelled label number) = label.now ++ decimal number
word_octets (Marked number mark) = decimal number ++ mark.now
word_octets (Hex octets) = hex octets.now

-- words behind the first one: a blank before each, and a line feed after the last
abbrev pub line_end : List (List ℕ) → List ℕ
line_end [] = codes "\n"
line_end (word ∷ words) = (codes " " ++ word) ++ line_end words

-- the line of these words
abbrev pub line_of : List (List ℕ) → List ℕ
line_of [] = codes "\n"
line_of (word ∷ words) = word ++ line_end words
