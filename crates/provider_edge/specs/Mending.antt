-- What a step of mending is at one end.
use Rattle.std.specs.Prelude.{◌&&◌, Bool, List, if◌then◌else◌}
use Rattle.net_base.specs.declared.plan.Plan.{Plan}
use Rattle.edge_model.specs.declared.end_place.EndPlace.{EndPlace}
use Rattle.edge_model.specs.Mend.{each_end, forgets_down, is_up_with, tells_down}
use Rattle.edge_model.specs.Put.{Spoken}
use Rattle.edge_model.specs.Role.{down_at}
use Rattle.edge_model.specs.State.{EdgeState}
use Rattle.edge_model.specs.Work.{Work}

-- a wire that began to forward, or stopped, is told at its terminal end
abbrev pub mended_down : Plan → EndPlace → Work → Work
mended_down plan place work = if place.terminal then tells_down place (down_at plan work.edge place) work else work

-- what was learned at a wire whose terminal end does not forward is forgotten
abbrev pub forgotten_down : Plan → EndPlace → Work → Work
forgotten_down plan place work = if place.terminal then forgets_down plan place (down_at plan work.edge place) work else work

-- the wire of an end is on, and the session with its peer is up
abbrev pub may_tell_end : EdgeState → EndPlace → Bool
may_tell_end edge place = edge.wire_on place.wire.0 && is_up_with (edge.peering place.peer.0)

-- each end in turn, behind what was told before
abbrev pub each_from : (failed : Bool) → List EndPlace → (EndPlace → Work → Spoken) → Work → Spoken
each_from failed places mend work = each_end mend places (record { work = work; failed = failed })
