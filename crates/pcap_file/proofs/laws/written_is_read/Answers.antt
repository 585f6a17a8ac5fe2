use Rattle.pcap_file.proofs.WrittenLemmas.{written_is_read}
use Rattle.pcap_file.proofs.laws.written_is_read.Goals as goal

pub returns : goal.returns
returns c = written_is_read
