-- The groups of the other wires, behind those used so far, are the groups of all.
use Rattle.std.proofs.Common.{◌≡◌, drop}
use Rattle.migration.specs.Groups.{used_after, used_groups}
use Rattle.migration.proofs.groups.groups_of.Given as goal

abbrev pub invariant-loop-wire : goal.invariant-loop-wire
invariant-loop-wire l = used_after l.used.keys (drop l.wire-index l.wires) ≡ used_groups l.wires
