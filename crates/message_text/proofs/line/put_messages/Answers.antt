-- The line of one more message is told, and at the end those of all.
use Rattle.std.proofs.Common.{◌++◌, ◌∙◌, ap, refl}
use Rattle.ldp_grammar.specs.declared.message.Message.{Message}
use Rattle.message_text.specs.Line.{decoded_line, decoded_lines}
use Rattle.message_text.proofs.WordLemmas.{all_told, next_told}
use Rattle.message_text.proofs.line.put_messages.Goals as goal

pub loop-message-preserved : goal.loop-message-preserved
loop-message-preserved c =
    let before = c.loop-message.text.items in
    let adds = c.in_ok-put_message.ensures ∙ ap (λ (message : Message). before ++ decoded_line c.args.base message) c.message-item.is in
    next_told (decoded_lines c.args.base) (decoded_line c.args.base) (λ x xs. refl)
    c.args.messages.now c.loop-message.message-index c.message-item.result before c.put_message.new.text.items _ c.loop-message-test.true adds c.loop-message.invariant

pub loop-message-init : goal.loop-message-init
loop-message-init c = refl

pub returns : goal.returns
returns c = all_told (decoded_lines c.args.base) refl c.args.messages.now c.loop-message.message-index c.loop-message.text.items _ c.loop-message-test.false c.loop-message.invariant
