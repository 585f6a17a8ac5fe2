use Rattle.std.proofs.Common.{◌≡◌, drop}
use Rattle.std.specs.List.{list_all}
use Rattle.edge_model.specs.Ends.{is_joined_place, is_stitched}
use Rattle.provider_edge.specs.Lists.{seen}
use Rattle.provider_edge.proofs.edge.Edge.is_stitched.Given as goal

abbrev pub invariant-loop-slot : goal.invariant-loop-slot
invariant-loop-slot l = list_all (is_joined_place (seen l.self) l.wire) (drop l.slot l.self.ends.places) ≡ is_stitched l.self.plan (seen l.self) l.wire
