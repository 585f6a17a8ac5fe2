-- What travels along a wire: at a switching point it goes on to the other neighbour, towards the same terminal edge.
use Rattle.std.proofs.Common.{◌≡◌, ◌||◌, List, Some, false, true}
use Rattle.std.proofs.lemmas.Bool.{or_parts}
use Rattle.net_base.proofs.PathLemmas.{mate_joined}
use Rattle.net_base.specs.declared.plan.places.EdgeId.{EdgeId}
use Rattle.net_base.specs.plan.Paths.{has_repeat, is_first, is_last, joins, mate_on}
use Rattle.network_model.proofs.GoalLemmas.{goal_kept, has_mate}
use Rattle.network_model.specs.Goal.{goal}

-- the next edge of the way
pub record GoesOnTo (path : List EdgeId) (from me : EdgeId) : Type 0 where
  pub to : EdgeId
  pub mate_is : mate_on path me.0 from.0 ≡ Some to
  pub joined : joins me.0 to.0 path ≡ true
  pub same_goal : goal path me to ≡ goal path from me

pub goes_on_to : (path : List EdgeId) (from me : EdgeId) → has_repeat path ≡ false → joins from.0 me.0 path ≡ true → is_first me.0 path || is_last me.0 path ≡ false → GoesOnTo path from me
goes_on_to path from me once joined inside =
    let neither = or_parts (is_first me.0 path) (is_last me.0 path) inside in
    let found = has_mate path from me once joined neither.0 neither.1 in
    record {
      to = found.0;
      mate_is = found.1;
      joined = mate_joined path me.0 from.0 found.0 found.1;
      same_goal = goal_kept path me from found.0 once joined found.1;
    }
