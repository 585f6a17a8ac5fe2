-- The lines of a report that were read, and what they told of each kind of entry that its last line counts.
use Rattle.std.specs.Prelude.{◌+◌}
use Rattle.net_base.specs.declared.trace.entry.Entry.{Entry}
use Rattle.report_text.specs.Counted.{AreWithin, counted, no_counts}
use Rattle.report_entries.specs.declared.tally.Tally.{Tally}

-- the line that names the format was read
abbrev pub first_counts : Tally
first_counts = record { lines = 1; counts = no_counts }

-- the line of an entry more
abbrev pub tallied : Entry → Tally → Tally
tallied entry tally = record { lines = tally.lines + 1; counts = counted entry tally.counts }

-- no kind has more entries than there are lines
abbrev pub AreTallied : Tally → Type 0
AreTallied tally = AreWithin tally.lines tally.counts
