-- The digits are made lane by lane.
use Rattle.std.proofs.Common.{◌∙◌}
use Rattle.text_pieces.proofs.LaneLemmas.{digits_made}
use Rattle.text_pieces.proofs.hexadecimal.sixteen.Goals as goal

pub returns : goal.returns
returns c = digits_made c.halves-halves.result 16 c.halves-halves.ensures.size c.halves-halves.ensures.small ∙ c.halves-halves.ensures.digits
