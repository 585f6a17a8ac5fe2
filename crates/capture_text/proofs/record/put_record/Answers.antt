-- The frame stands behind its head.
use Rattle.std.proofs.Common.{length}
use Rattle.pcap_file.specs.Written.{written_record}
use Rattle.capture_text.proofs.RecordLemmas.{cut_made, puts_behind}
use Rattle.capture_text.proofs.record.put_record.Goals as goal

pub returns-in-Ok : goal.returns-in-Ok
returns-in-Ok g c = puts_behind c.put-in-Ok.result _ _ _ _ (written_record c.args.seconds (length c.args.frame.now)) c.args.frame.now c.head_of.ensures c.in-Ok.ensures c.put-in-Ok.ensures

pub returns-in-Err : goal.returns-in-Err
returns-in-Err g c = cut_made _ _ _ (written_record c.args.seconds (length c.args.frame.now)) c.args.frame.now c.head_of.ensures c.in-Err.ensures
