use Rattle.pcap_file.proofs.WholeLemmas.{each_is_read}
use Rattle.pcap_file.proofs.laws.each_is_read.Goals as goal

pub returns : goal.returns
returns c = each_is_read
