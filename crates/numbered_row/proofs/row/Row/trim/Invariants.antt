-- Places went that have no value.
use Rattle.std.proofs.Common.{◌≡◌, ◌+◌, ℕ, length}
use Rattle.numbered_row.specs.Places.{trimmed, value_placed}
use Rattle.numbered_row.proofs.row.Row.trim.Given as goal

abbrev pub invariant-trimming : goal.invariant-trimming
invariant-trimming g l =
    ((n : ℕ) → value_placed l.self.first l.self.places n ≡ value_placed l.fn.self.first l.fn.self.places n)
    × (trimmed l.self.places ≡ trimmed l.fn.self.places)
    × (l.self.first + length l.self.places ≡ l.fn.self.first + length l.fn.self.places)

abbrev pub decreases-trimming : goal.decreases-trimming
decreases-trimming g l = length l.self.places
