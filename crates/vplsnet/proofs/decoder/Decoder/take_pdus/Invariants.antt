use Rattle.std.proofs.Common.{length}
use Rattle.text_lines.specs.Written.{lines_written}
use Rattle.vplsnet.specs.StreamSteps.{IsStreamGoing, TextGoesOn}
use Rattle.vplsnet.proofs.decoder.Decoder.take_pdus.Given as goal

abbrev pub invariant-taking : goal.invariant-taking
invariant-taking g l = record {
  going : IsStreamGoing l.self.stream l.fed;
  on : TextGoesOn l.fn.self.stream l.self.stream (lines_written (g.K.Sink.taken l.fn.sink) (g.K.Sink.faults l.fn.sink) l.fn.self.page) (lines_written (g.K.Sink.taken l.sink) (g.K.Sink.faults l.sink) l.self.page);
}

abbrev pub decreases-taking : goal.decreases-taking
decreases-taking g l = length l.self.stream.held
