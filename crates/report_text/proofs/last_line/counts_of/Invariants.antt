-- The counts so far, and what the entries that are left add to them.
use Rattle.std.proofs.Common.{◌≡◌, drop}
use Rattle.report_text.specs.Counted.{AreWithin, counts_behind, no_counts}
use Rattle.report_text.proofs.last_line.counts_of.Given as goal

abbrev pub invariant-loop-entry : goal.invariant-loop-entry
invariant-loop-entry l = record {
  is : counts_behind l.counts (drop l.entry-index l.trace) ≡ counts_behind no_counts l.trace;
  within : AreWithin l.entry-index l.counts;
}
