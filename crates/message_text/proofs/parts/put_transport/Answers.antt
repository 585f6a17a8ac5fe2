-- An address that is told is one word.
use Rattle.std.proofs.Common.{codes}
use Rattle.std.proofs.lemmas.Result.{on_ok_weaker}
use Rattle.message_text.specs.Words.{dotted}
use Rattle.message_text.proofs.WordLemmas.{value_told}
use Rattle.message_text.proofs.parts.put_transport.Goals as goal

pub returns-in_ok-put_text-in-Some : goal.returns-in_ok-put_text-in-Some
returns-in_ok-put_text-in-Some c =
    rw c.in-Some.is (on_ok_weaker c.put_address.result (λ told. value_told c.args.text.now.items c.put_text.new.text.items c.put_address.new.text.items (codes "transport=") (dotted c.in-Some.address)
    c.in_ok-put_text-in-Some.ensures told) c.put_address.ensures)
