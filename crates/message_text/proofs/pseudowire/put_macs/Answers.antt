-- The addresses stand behind their number and a slash: one more is told, and at the end all.
use Rattle.std.proofs.Common.{◌++◌, ◌∙◌, [], List, Option, Some, ap, codes, length, refl, sym}
use Rattle.std.specs.Fmt.{decimal}
use Rattle.net_values.specs.declared.mac.Mac.{Mac}
use Rattle.text_pieces.specs.Pieces.{hex, spaced}
use Rattle.message_text.specs.Words.{mac_digits, macs_words}
use Rattle.message_text.proofs.WordLemmas.{all_told, next_told, pair_told}
use Rattle.message_text.proofs.pseudowire.put_macs.Goals as goal

pub loop-mac-init : goal.loop-mac-init
loop-mac-init c =
    let listed = c.as_slice-listed.result.now in
    pair_told c.args.text.now.items c.put_told.new.text.items c.push.new.self.items (c.push.new.self.items ++ mac_digits listed) (codes "macs=") (decimal (length listed)) (mac_digits listed)
    c.in_ok-put_told.ensures c.in_ok-push.ensures.items refl

pub loop-mac-preserved : goal.loop-mac-preserved
loop-mac-preserved c =
    next_told mac_digits (λ (mac : Mac). hex mac.0) (λ x xs. refl)
    c.as_slice-listed.result.now c.loop-mac.mac-index (record { 0 = [] }) c.loop-mac.text.items c.put_digits.new.text.items _ c.loop-mac-test.true c.in_ok-put_digits.ensures c.loop-mac.invariant

pub returns : goal.returns
returns c =
    let listed = c.as_slice-listed.result.now in
    all_told mac_digits refl listed c.loop-mac.mac-index c.loop-mac.text.items _ c.loop-mac-test.false c.loop-mac.invariant
    ∙ ap (λ (macs : Option (List Mac)). c.args.text.now.items ++ spaced (macs_words macs)) (ap Some c.as_slice-listed.ensures ∙ sym c.in-Some.is)
