use Rattle.std.proofs.Common.{◌≡◌, drop}
use Rattle.edge_model.specs.Spokes.{spoke_at}
use Rattle.pw_ends.specs.Ends.{place_of}
use Rattle.provider_edge.specs.Lists.{seen}
use Rattle.provider_edge.specs.Spokes.{place_where}
use Rattle.spoke_redundancy.specs.Least.{is_least}
use Rattle.provider_edge.proofs.edge.Edge.place_with.Given as goal

-- none of the slots so far is of such a spoke
abbrev pub invariant-loop-place : goal.invariant-loop-place
invariant-loop-place l =
    place_where (λ slot. is_least l.least (spoke_at (seen l.self) (place_of l.self.ends slot))) l.place (drop l.place l.slots)
    ≡ place_where (λ slot. is_least l.least (spoke_at (seen l.self) (place_of l.self.ends slot))) 0 l.slots
