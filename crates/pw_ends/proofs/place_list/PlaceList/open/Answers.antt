-- The index is that of the list, whose places are in order and apart.
use Rattle.pw_ends.proofs.OrderLemmas.{places_in_order}
use Rattle.pw_ends.proofs.PlaceLemmas.{places_apart, places_few}
use Rattle.pw_ends.proofs.place_list.PlaceList.open.Goals as goal

pub invariant_of-result : goal.invariant_of-result
invariant_of-result c = (rw c.as_slice.ensures at c.in_ok-index.ensures, rw c.in_ok-list.ensures (places_in_order c.args.plan.now c.args.me))

pub returns-clause-apart : goal.returns-clause-apart
returns-clause-apart c = rw c.in_ok-list.ensures (places_apart c.args.plan.now c.args.me c.requires)

pub returns-clause-few : goal.returns-clause-few
returns-clause-few c = rw c.in_ok-list.ensures (places_few c.args.plan.now c.args.me c.requires)
