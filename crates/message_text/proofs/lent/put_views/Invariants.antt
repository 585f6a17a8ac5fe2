use Rattle.std.proofs.Common.{length}
use Rattle.message_text.proofs.LentLemmas.{AddsSoFar}
use Rattle.message_text.proofs.lent.put_views.Given as goal

abbrev pub invariant-adding : goal.invariant-adding
invariant-adding l = AddsSoFar l.base l.pdu.spellings l.left l.fn.text.items l.text.items

abbrev pub decreases-adding : goal.decreases-adding
decreases-adding l = length l.left
