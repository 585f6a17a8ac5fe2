-- The addresses before the index are written.
use Rattle.std.proofs.Common.{take}
use Rattle.pw_tlvs.proofs.MacLemmas.{AreWritten}
use Rattle.pw_tlvs.proofs.macs.write_macs.Given as goal

abbrev pub invariant-loop-mac : goal.invariant-loop-mac
invariant-loop-mac l = AreWritten (take l.mac-index l.list) l.mac-index l.at l.fn.out l.out
