use Rattle.std.proofs.Common.{◌≡◌, ◌++◌, Some, drop}
use Rattle.text_pieces.specs.Pieces.{spaced}
use Rattle.message_text.specs.Words.{mac_digits, macs_words}
use Rattle.message_text.proofs.pseudowire.put_macs.Given as goal

abbrev pub invariant-loop-mac : goal.invariant-loop-mac
invariant-loop-mac l = l.text.items ++ mac_digits (drop l.mac-index l.listed) ≡ l.fn.text.items ++ spaced (macs_words (Some l.listed))
