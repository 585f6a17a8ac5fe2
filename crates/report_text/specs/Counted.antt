-- How many entries of each kind that the last line of a report counts there are.
use Rattle.std.specs.Prelude.{◌+◌, ◌≤◌, ℕ, List, [], ◌∷◌}
use Rattle.net_base.specs.declared.trace.entry.Entry.{Entry}
use Rattle.net_base.specs.declared.trace.entry.Entry.TheVariants.{Did, In, Sent, Left, Dropped}
use Rattle.report_text.specs.declared.counts.Counts.{Counts}

-- no entry of any kind
abbrev pub no_counts : Counts
no_counts = record { events = 0; entered = 0; left = 0; sent = 0; dropped = 0 }

-- an entry is counted by its kind
abbrev pub counted : Entry → Counts → Counts
counted (Did event) counts = record counts { events = counts.events + 1 }
counted (In circuit number octets) counts = record counts { entered = counts.entered + 1 }
counted (Left circuit origin hops octets) counts = record counts { left = counts.left + 1 }
counted (Sent from to wire arrival packet origin hops octets) counts = record counts { sent = counts.sent + 1 }
counted (Dropped edge origin cause) counts = record counts { dropped = counts.dropped + 1 }
counted entry counts = counts

-- the counts behind entries
abbrev pub counts_behind : Counts → List Entry → Counts
counts_behind counts [] = counts
counts_behind counts (entry ∷ entries) = counts_behind (counted entry counts) entries

-- no kind has more entries than this
pub record AreWithin (most : ℕ) (counts : Counts) : Type 0 where
  pub events : counts.events ≤ most
  pub entered : counts.entered ≤ most
  pub left : counts.left ≤ most
  pub sent : counts.sent ≤ most
  pub dropped : counts.dropped ≤ most
