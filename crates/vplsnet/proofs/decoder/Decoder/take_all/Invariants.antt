use Rattle.std.proofs.Common.{length, ◌-◌}
use Rattle.text_lines.specs.Written.{lines_written}
use Rattle.vplsnet.specs.StreamSteps.{IsFedTo}
use Rattle.vplsnet.proofs.decoder.Decoder.take_all.Given as goal

abbrev pub invariant-feeding : goal.invariant-feeding
invariant-feeding g l = IsFedTo l.octets l.at l.self.stream (lines_written (g.K.Sink.taken l.fn.sink) (g.K.Sink.faults l.fn.sink) l.fn.self.page)
    (lines_written (g.K.Sink.taken l.sink) (g.K.Sink.faults l.sink) l.self.page)

abbrev pub decreases-feeding : goal.decreases-feeding
decreases-feeding g l = length l.octets - l.at
