-- The octets of the file are a capture.
use Rattle.std.proofs.Common.{ℕ, List, subst}
use Rattle.pcap_file.specs.Records.{IsCapture}
use Rattle.vplsnet.proofs.CaptureLemmas.{has_frames}
use Rattle.vplsnet.proofs.captures.frames_of.Goals as goal

pub returns-in-Ok-read_capture-clause-has : goal.returns-in-Ok-read_capture-clause-has
returns-in-Ok-read_capture-clause-has g c =
    has_frames _ c.args.file.now c.in-Ok.octets c.in-Ok-read_capture.frames c.in-Ok.ensures.has c.in-Ok.ensures.fits
    (subst (λ (l : List ℕ). IsCapture l c.in-Ok-read_capture.frames) c.as_slice.ensures c.in-Ok-read_capture.ensures.frames)
