-- The addresses before the index are counted.
use Rattle.std.proofs.Common.{◌≡◌, ◌+◌, ◌*◌, length, drop}
use Rattle.pw_tlvs.specs.Macs.{mac_octets}
use Rattle.pw_tlvs.proofs.macs.macs_size.Given as goal

abbrev pub invariant-loop-mac : goal.invariant-loop-mac
invariant-loop-mac l = record {
  count : l.size ≡ 6 * l.mac-index;
  size : l.size + length (mac_octets (drop l.mac-index l.list)) ≡ length (mac_octets l.fn.list);
}
