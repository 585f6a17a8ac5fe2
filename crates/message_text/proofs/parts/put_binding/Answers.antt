-- The label stands behind its FEC.
use Rattle.std.proofs.lemmas.Result.{on_ok_weaker}
use Rattle.message_text.specs.Words.{fec_words, label_words}
use Rattle.text_pieces.proofs.SpacedLemmas.{both_told}
use Rattle.message_text.proofs.parts.put_binding.Goals as goal

pub returns : goal.returns
returns c = on_ok_weaker c.put_told_label.result (λ told. both_told c.args.text.now.items c.put_fec.new.text.items c.put_told_label.new.text.items (fec_words c.args.fec.now)
    (label_words c.args.label) c.in_ok-put_fec.ensures told) c.put_told_label.ensures
