-- The words of a line stand one after another.
use Rattle.std.proofs.Common.{◌++◌, ◌∙◌, arith}
use Rattle.std.specs.Fmt.{decimal}
use Rattle.ldp_grammar.specs.Written.{id_of}
use Rattle.text_pieces.specs.Pieces.{spaced}
use Rattle.message_text.specs.Words.{message_name, part_words}
use Rattle.message_text.proofs.LaidLemmas.{laid_told}
use Rattle.message_text.proofs.WordLemmas.{line_told}
use Rattle.message_text.proofs.line.put_message.Goals as goal

pub returns : goal.returns
returns c =
    let message = c.args.message.now in
    let old = c.args.text.now.items in
    let place = decimal c.args.base in
    let laid = c.lay_opening-begin in
    let opening = c.as_bytes-opening.ensures.value ∙ c.message_opening.ensures in
    let opened = laid_told old c.put_text.new.text.items laid.new.room _ laid.result 80 (omega arith) c.in_ok-put_text.ensures laid.ensures.laid in
    line_told old c.put_text.new.text.items c.put_parts.new.text.items c.push.new.self.items place (message_name message) (decimal (id_of message)) (spaced (part_words message))
    (opened ∙ (λ i. old ++ (place ++ (opening i ++ decimal (c.id.ensures i))))) c.in_ok-put_parts.ensures c.in_ok-push.ensures.items
