-- The octets before the place are records.
use Rattle.std.proofs.Common.{◌≤◌, length, take, ◌-◌}
use Rattle.pcap_file.specs.Records.{AreRecords}
use Rattle.pcap_file.proofs.reading.read_records.Given as goal

abbrev pub invariant-reading : goal.invariant-reading
invariant-reading l = record {
  within : l.at ≤ length l.octets;
  records : AreRecords l.order (take l.at l.octets) l.frames;
}

abbrev pub decreases-reading : goal.decreases-reading
decreases-reading l = length l.octets - l.at
