use Rattle.std.proofs.Common.{◌≡◌, ◌++◌, drop}
use Rattle.provider_edge.specs.Spokes.{slots_for, slots_where, starts_spoke}
use Rattle.provider_edge.proofs.spokes.slots_for.Given as goal

-- the slots so far and those of the places that are left are all of them
abbrev pub invariant-loop-slot : goal.invariant-loop-slot
invariant-loop-slot l = l.slots ++ slots_where (starts_spoke l.plan l.me l.service) l.slot (drop l.slot l.places) ≡ slots_for l.plan l.me l.places l.service.0
