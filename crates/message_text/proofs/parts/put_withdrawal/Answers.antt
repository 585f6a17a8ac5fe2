-- FEC and MAC addresses stand behind the addresses.
use Rattle.std.proofs.Common.{◌++◌}
use Rattle.std.proofs.lemmas.Result.{on_ok_weaker}
use Rattle.message_text.specs.Words.{macs_words, told_fec_words, withdrawn_words}
use Rattle.text_pieces.proofs.SpacedLemmas.{both_told}
use Rattle.message_text.proofs.parts.put_withdrawal.Goals as goal

pub returns : goal.returns
returns c =
    let old = c.args.text.now.items in
    let front = both_told old c.put_withdrawn.new.text.items c.put_told_fec.new.text.items (withdrawn_words c.args.addresses.now)
    (told_fec_words c.args.fec.now) c.in_ok-put_withdrawn.ensures c.in_ok-put_told_fec.ensures in
    on_ok_weaker c.put_macs.result (λ told. both_told old c.put_told_fec.new.text.items c.put_macs.new.text.items
    ((withdrawn_words c.args.addresses.now) ++ told_fec_words c.args.fec.now) (macs_words c.args.macs.now) front told) c.put_macs.ensures
