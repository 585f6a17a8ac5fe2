-- The places so far and those of the rest of the path are those of the path.
use Rattle.std.proofs.Common.{◌≡◌, ◌++◌, ◌∷◌, drop}
use Rattle.edge_model.specs.EndPlaces.{places_along}
use Rattle.pw_ends.proofs.plan_places.push_places.Given as goal

abbrev pub invariant-loop-number : goal.invariant-loop-number
invariant-loop-number l =
    l.places ++ places_along l.wire l.row l.me l.number (l.before ∷ drop l.number l.rest) ≡ l.fn.places ++ places_along l.wire l.row l.me 0 l.row.path
