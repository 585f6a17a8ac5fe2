-- The lines of a script.
use Rattle.std.specs.Prelude.{◌++◌, ◌+◌, ◌&&◌, nat_le, nat_lt, ℕ, Bool, List, [], ◌∷◌, length, Option, Some, None, unwrap_or, Result, Ok, Err, if◌then◌else◌}
use Rattle.std.specs.List.{list_all}
use Rattle.script_text.specs.declared.script_fault.ScriptFault.{ScriptFault}
use Rattle.script_text.specs.declared.script_fault.ScriptFault.TheVariants.{Bad}
use Rattle.script_text.specs.Parts.{parted_by}
use Rattle.script_text.specs.Reading.{◌>>=◌}

-- a space and a line feed
abbrev pub space : ℕ
space = 32

abbrev pub line_feed : ℕ
line_feed = 10

-- the most lines of a script
abbrev pub most_lines : ℕ
most_lines = 100000

-- a graphic octet of ASCII
abbrev pub is_graphic : ℕ → Bool
is_graphic octet = nat_le 33 octet && nat_le octet 126

-- graphic octets, one at least
abbrev pub is_word : List ℕ → Bool
is_word word = nat_lt 0 (length word) && list_all is_graphic word

-- the words of a line, parted by one space
abbrev pub words_of : List ℕ → List (List ℕ)
words_of line = parted_by space line

-- words with a space between each two
abbrev pub spaced_words : List (List ℕ) → List ℕ
spaced_words [] = []
spaced_words (word ∷ []) = word
spaced_words (word ∷ next ∷ words) = word ++ space ∷ spaced_words (next ∷ words)

-- the number of the first that is no word, where the first one has this number
abbrev pub bad_word : ℕ → List (List ℕ) → Option ℕ
bad_word number [] = None
bad_word number (word ∷ words) = if is_word word then bad_word (number + 1) words else Some number

-- the words, where each is one
abbrev pub words_or : ℕ → List (List ℕ) → Option ℕ → Result (List (List ℕ)) ScriptFault
words_or number words None = Ok words
words_or number words (Some word) = Err (Bad number word)

-- the words of the line of this number
abbrev pub line_in : ℕ → List ℕ → Result (List (List ℕ)) ScriptFault
line_in number line = words_or number (words_of line) (bad_word 1 (words_of line))

-- what follows the last line feed is nothing, or a line that lacks its end: a word is wrong in it, or missing behind its last one
abbrev pub last_in : ℕ → List ℕ → Result (List (List (List ℕ))) ScriptFault
last_in number [] = Ok []
last_in number (octet ∷ rest) = Err (Bad number (unwrap_or (bad_word 1 (words_of (octet ∷ rest))) (length (words_of (octet ∷ rest)) + 1)))

-- one line more than the most is wrong at its first word
abbrev pub within_most : {A : Type 0} → ℕ → Result A ScriptFault → Result A ScriptFault
within_most number read = if nat_le number most_lines then read else Err (Bad number 1)

-- the same for what follows the last line feed, which is a line where it is not empty
abbrev pub last_within : ℕ → List ℕ → Result (List (List (List ℕ))) ScriptFault
last_within number [] = Ok []
last_within number (octet ∷ rest) = within_most number (last_in number (octet ∷ rest))

-- a line before others
abbrev pub lines_with : List (List ℕ) → Result (List (List (List ℕ))) ScriptFault → Result (List (List (List ℕ))) ScriptFault
lines_with words read = read >>= (λ lines. Ok (words ∷ lines))

-- the lines of the parts between line feeds, where the first one has this number
abbrev pub lines_in : ℕ → List (List ℕ) → Result (List (List (List ℕ))) ScriptFault
lines_in number [] = Ok []
lines_in number (last ∷ []) = last_within number last
lines_in number (line ∷ next ∷ parts) =
    within_most number (line_in number line >>= (λ words. lines_with words (lines_in (number + 1) (next ∷ parts))))

-- the lines of a script, each as the list of its words, or the first place that is wrong
unfoldable pub script : List ℕ → Result (List (List (List ℕ))) ScriptFault
script bytes = lines_in 1 (parted_by line_feed bytes)
