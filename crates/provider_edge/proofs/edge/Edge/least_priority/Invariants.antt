use Rattle.std.proofs.Common.{◌≡◌, ◌||◌, ℕ, drop, map}
use Rattle.std.specs.List.{list_any}
use Rattle.edge_model.specs.Spokes.{spoke_at}
use Rattle.pw_ends.specs.Ends.{place_of}
use Rattle.provider_edge.specs.Lists.{seen}
use Rattle.spoke_redundancy.specs.Least.{is_less, is_usable_below}
use Rattle.provider_edge.proofs.edge.Edge.least_priority.Given as goal

-- a spoke is usable below a number where the least one so far is less, or one of the slots that are left is
abbrev pub invariant-loop-slot : goal.invariant-loop-slot
invariant-loop-slot l = (number : ℕ)
    → (is_less l.least number || list_any (is_usable_below number) (map (λ slot. spoke_at (seen l.self) (place_of l.self.ends slot)) (drop l.slot-index l.slots)))
    ≡ list_any (is_usable_below number) (map (λ slot. spoke_at (seen l.self) (place_of l.self.ends slot)) l.slots)
