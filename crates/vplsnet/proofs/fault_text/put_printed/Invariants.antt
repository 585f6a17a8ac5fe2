use Rattle.std.proofs.Common.{◌≡◌, ◌++◌, map, drop}
use Rattle.command_text.specs.Places.{masked}
use Rattle.vplsnet.proofs.fault_text.put_printed.Given as goal

abbrev pub invariant-loop-octet : goal.invariant-loop-octet
invariant-loop-octet l = l.text.items ++ map masked (drop l.octet-index l.octets) ≡ l.fn.text.items ++ map masked l.octets
