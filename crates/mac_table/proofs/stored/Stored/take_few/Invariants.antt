-- What goes is out as far as the place, and all before the place stays.
use Rattle.std.proofs.Common.{◌≡◌, ◌≤◌, ◌-◌, length, take, true}
use Rattle.std.specs.Prelude.{All, filter}
use Rattle.mac_table.specs.Removal.{keeps_entry}
use Rattle.mac_table.proofs.stored.Stored.take_few.Given as goal

abbrev pub invariant-taking : goal.invariant-taking
invariant-taking l =
    (l.place ≤ length l.self.entries)
    × (record l.self { entries = filter (keeps_entry l.removal) l.self.entries } ≡ record l.fn.self { entries = filter (keeps_entry l.removal) l.fn.self.entries })
    × All (λ e. keeps_entry l.removal e ≡ true) (take l.place l.self.entries)

abbrev pub decreases-taking : goal.decreases-taking
decreases-taking l = length l.self.entries - l.place
