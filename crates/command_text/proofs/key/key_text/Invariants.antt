-- The octets passed are masked.
use Rattle.std.proofs.Common.{◌≡◌, map, take, length}
use Rattle.command_text.specs.Places.{masked}
use Rattle.command_text.proofs.key.key_text.Given as goal

abbrev pub invariant-loop-i : goal.invariant-loop-i
invariant-loop-i l = (take l.i l.octets ≡ map masked (take l.i l.front)) × (length l.octets ≡ 32)
