-- Places were added that have no value, and no more than so many.
use Rattle.std.proofs.Common.{◌≡◌, ◌≤◌, ◌+◌, ℕ, length}
use Rattle.numbered_row.specs.Places.{value_placed}
use Rattle.numbered_row.proofs.row.Row.reach.Given as goal

abbrev pub invariant-reaching : goal.invariant-reaching
invariant-reaching g l =
    ((n : ℕ) → value_placed l.self.first l.self.places n ≡ value_placed l.fn.self.first l.fn.self.places n)
    × (length l.self.places + l.more ≤ length l.fn.self.places + l.most)

abbrev pub decreases-reaching : goal.decreases-reaching
decreases-reaching g l = l.more
