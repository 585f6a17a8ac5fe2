-- The status of a pseudowire stands behind its FEC.
use Rattle.std.proofs.lemmas.Result.{on_ok_weaker}
use Rattle.message_text.specs.Words.{pw_status_words, told_fec_words}
use Rattle.text_pieces.proofs.SpacedLemmas.{both_told}
use Rattle.message_text.proofs.parts.put_notified.Goals as goal

pub returns : goal.returns
returns c = on_ok_weaker c.put_pw_status.result (λ told. both_told c.args.text.now.items c.put_told_fec.new.text.items c.put_pw_status.new.text.items (told_fec_words c.args.fec.now)
    (pw_status_words c.args.pw_status) c.in_ok-put_told_fec.ensures told) c.put_pw_status.ensures
