use Rattle.std.proofs.Common.{◌≤◌, ◌-◌, length, take}
use Rattle.net_base.specs.outside.Outside.{Appends}
use Rattle.text_lines.proofs.whole.write_text.Given as goal

abbrev pub invariant-writing : goal.invariant-writing
invariant-writing g l = record {
  within : l.at ≤ length l.text;
  taken : Appends (g.K.Sink.taken l.fn.sink) (g.K.Sink.taken l.sink) (take l.at l.text);
  faults : g.K.Sink.faults l.fn.sink ≤ g.K.Sink.faults l.sink;
}

abbrev pub decreases-writing : goal.decreases-writing
decreases-writing g l = length l.text - l.at
