-- The low 32 bits of the time and of the length are written.
use Rattle.std.proofs.Common.{◌∙◌}
use Rattle.capture_text.proofs.RecordLemmas.{record_low}
use Rattle.capture_text.proofs.record.head_of.Goals as goal

pub returns : goal.returns
returns c = c.write_record.ensures.octets ∙ record_low c.args.seconds c.args.size
