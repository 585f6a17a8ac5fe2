-- The records stand behind the header.
use Rattle.std.proofs.Common.{flat_map}
use Rattle.pcap_file.specs.Written.{written_frame, written_header}
use Rattle.capture_text.specs.Capture.{capture_text, frames_left}
use Rattle.capture_text.proofs.RecordLemmas.{cut_made, puts_behind}
use Rattle.capture_text.proofs.capture.put_capture.Goals as goal

pub returns-in-Ok : goal.returns-in-Ok
unfolding capture_text
returns-in-Ok g c = puts_behind c.put_frames.result _ _ _ _ written_header
    (flat_map written_frame (frames_left c.args.circuit 0 c.args.trace.now)) c.header.ensures c.in-Ok.ensures c.put_frames.ensures

pub returns-in-Err : goal.returns-in-Err
unfolding capture_text
returns-in-Err g c = cut_made _ _ _ written_header (flat_map written_frame (frames_left c.args.circuit 0 c.args.trace.now)) c.header.ensures c.in-Err.ensures
