use Rattle.std.proofs.Common.{◌≤◌, ◌-◌, length, drop}
use Rattle.text_lines.specs.Written.{lines_written}
use Rattle.text_lines.proofs.WrittenLemmas.{Putting}
use Rattle.text_lines.proofs.page.Page.put_over.Given as goal

abbrev pub invariant-putting : goal.invariant-putting
invariant-putting g l = record {
  within : l.at ≤ length l.octets;
  putting : Putting (lines_written (g.K.Sink.taken l.fn.sink) (g.K.Sink.faults l.fn.sink) l.fn.self) (lines_written (g.K.Sink.taken l.sink) (g.K.Sink.faults l.sink) l.self) (drop l.at l.octets) l.octets;
}

abbrev pub decreases-putting : goal.decreases-putting
decreases-putting g l = length l.octets - l.at
