-- The places from the slot on have their slots.
use Rattle.std.proofs.Common.{◌≤◌, length}
use Rattle.pw_ends.proofs.IndexLemmas.{FindsFrom}
use Rattle.pw_ends.proofs.place_list.index_of.Given as goal

abbrev pub invariant-placing : goal.invariant-placing
invariant-placing l = FindsFrom l.slot l.places l.index.entries × (l.slot ≤ length l.places)

abbrev pub decreases-placing : goal.decreases-placing
decreases-placing l = l.slot
