-- The places so far and those of the wires that are left are all places.
use Rattle.std.proofs.Common.{◌≡◌, ◌++◌, drop}
use Rattle.edge_model.specs.EndPlaces.{end_places, places_from}
use Rattle.pw_ends.proofs.plan_places.end_places.Given as goal

abbrev pub invariant-loop-wire : goal.invariant-loop-wire
invariant-loop-wire l = l.places ++ places_from l.me l.wire (drop l.wire l.plan.wires) ≡ end_places l.plan l.me
