-- The points from the index on decide as all of them do.
use Rattle.std.proofs.Common.{◌≡◌, drop}
use Rattle.std.specs.List.{list_any}
use Rattle.pw_stitch.specs.Accepting.{is_point_at}
use Rattle.pw_stitch.proofs.accepting.has_passed.Given as goal

abbrev pub invariant-loop-index : goal.invariant-loop-index
invariant-loop-index l = list_any (is_point_at l.fn.own) (drop l.index l.fn.points) ≡ list_any (is_point_at l.fn.own) l.fn.points
