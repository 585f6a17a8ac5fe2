-- The lines of messages that are lent.
use Rattle.std.specs.Prelude.{◌≡◌, ◌++◌, ℕ, List}
use Rattle.ldp_grammar.specs.declared.message.Message.{Message}
use Rattle.ldp_grammar.specs.Spells.{Spelling, StandsFor, StandInOrder}
use Rattle.message_text.specs.Line.{decoded_line, decoded_lines}

-- the line of the message that a spelling stands for was added
pub record AddsLine (base : ℕ) (spelling : Spelling) (before after : List ℕ) : Type 0 where
  pub message : Message
  pub stands : StandsFor spelling message
  pub line : after ≡ before ++ decoded_line base message

-- the lines of the messages that spellings stand for were added, in order
pub record AddsLines (base : ℕ) (spellings : List Spelling) (before after : List ℕ) : Type 0 where
  pub messages : List Message
  pub stand : StandInOrder spellings messages
  pub lines : after ≡ before ++ decoded_lines base messages
