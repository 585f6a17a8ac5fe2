-- A record is put where the entry tells of a frame.
use Rattle.capture_text.proofs.RecordLemmas.{puts_left, puts_none}
use Rattle.capture_text.proofs.capture.put_entry.Goals as goal

pub returns-in-Some : goal.returns-in-Some
returns-in-Some g c = puts_left c.put_record.result _ _ c.args.ticks _ _ _ _ c.octets_left.ensures c.in-Some.is c.put_record.ensures

pub returns-in-None : goal.returns-in-None
returns-in-None g c = puts_none _ c.args.ticks _ _ _ c.octets_left.ensures c.in-None.is
