-- The answer is the only one.
use Rattle.pcap_file.proofs.ReadingLemmas.{accepts, refuses}
use Rattle.pcap_file.proofs.reading.read_capture.Goals as goal

pub returns-clause-accepts : goal.returns-clause-accepts
returns-clause-accepts c = accepts c.args.bytes.now c.frames_of.result c.frames_of.ensures.frames c.frames_of.ensures.fault

pub returns-clause-refuses : goal.returns-clause-refuses
returns-clause-refuses c = refuses c.args.bytes.now c.frames_of.result c.frames_of.ensures.frames c.frames_of.ensures.fault
