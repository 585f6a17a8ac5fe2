use Rattle.std.proofs.Common.{◌≤◌, drop, flat_map}
use Rattle.capture_text.specs.Capture.{frames_left}
use Rattle.pcap_file.specs.Written.{written_frame}
use Rattle.text_lines.specs.Written.{lines_written}
use Rattle.text_lines.proofs.WrittenLemmas.{Putting}
use Rattle.capture_text.proofs.capture.put_frames.Given as goal

abbrev pub invariant-loop-entry : goal.invariant-loop-entry
invariant-loop-entry g l = record {
  few : l.ticks ≤ l.entry-index;
  putting : Putting (lines_written (g.K.Sink.taken l.fn.sink) (g.K.Sink.faults l.fn.sink) l.fn.page) (lines_written (g.K.Sink.taken l.sink) (g.K.Sink.faults l.sink) l.page)
      (flat_map written_frame (frames_left l.circuit l.ticks (drop l.entry-index l.trace))) (flat_map written_frame (frames_left l.circuit 0 l.trace));
}
