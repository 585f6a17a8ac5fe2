use Rattle.std.proofs.Common.{◌≡◌, ◌++◌, drop}
use Rattle.message_text.specs.Line.{decoded_lines}
use Rattle.message_text.proofs.line.put_messages.Given as goal

abbrev pub invariant-loop-message : goal.invariant-loop-message
invariant-loop-message l = l.text.items ++ decoded_lines l.base (drop l.message-index l.messages) ≡ l.fn.text.items ++ decoded_lines l.base l.messages
