use Rattle.std.proofs.Common.{◌∙◌, sym}
use Rattle.command_text.proofs.FrameLemmas.{frame_of_first}
use Rattle.command_text.proofs.said.first_frame.Goals as goal

pub returns-in-Some-clause-value : goal.returns-in-Some-clause-value
returns-in-Some-clause-value c = frame_of_first c.args.octets.now c.in-Some.bytes (sym c.in-Some.is ∙ c.in_ok-bytes.ensures.value)
