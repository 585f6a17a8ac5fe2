-- The names from `at` on have their places.
use Rattle.std.proofs.Common.{◌≤◌, length}
use Rattle.plan_names.proofs.NameLemmas.{FindsFrom}
use Rattle.plan_names.proofs.name_index.places_of.Given as goal

abbrev pub invariant-placing : goal.invariant-placing
invariant-placing l = FindsFrom l.at l.names l.places.entries × (l.at ≤ length l.names)

abbrev pub decreases-placing : goal.decreases-placing
decreases-placing l = l.at
