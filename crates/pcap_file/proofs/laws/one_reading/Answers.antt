use Rattle.pcap_file.proofs.ReadingLemmas.{one_reading}
use Rattle.pcap_file.proofs.laws.one_reading.Goals as goal

pub returns : goal.returns
returns c = one_reading
