-- The lines of decoded messages.
use Rattle.std.specs.Prelude.{◌++◌, codes, ℕ, List, [], ◌∷◌}
use Rattle.std.specs.Fmt.{decimal}
use Rattle.ldp_grammar.specs.declared.message.Message.{Message}
use Rattle.ldp_grammar.specs.Written.{id_of}
use Rattle.text_pieces.specs.Pieces.{spaced}
use Rattle.message_text.specs.Words.{message_name, part_words}

-- the name of a message, its Message ID, and its parts
abbrev pub message_words : Message → List (List ℕ)
message_words message = message_name message ∷ (codes "id=" ++ decimal (id_of message)) ∷ part_words message

-- the line of a message: the place of its PDU in the stream, and its words
abbrev pub decoded_line : ℕ → Message → List ℕ
decoded_line base message = (decimal base ++ spaced (message_words message)) ++ codes "\n"

-- the lines of the messages of a PDU that begins at a place
abbrev pub decoded_lines : ℕ → List Message → List ℕ
decoded_lines base [] = []
decoded_lines base (message ∷ messages) = decoded_line base message ++ decoded_lines base messages
