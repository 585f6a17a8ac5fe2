use Rattle.std.proofs.Common.{◌≡◌, ◌≤◌, ◌+◌, drop, length}
use Rattle.seen_network.specs.Seen.{Seen}
use Rattle.seen_state.specs.SeenState.{Knows}
use Rattle.seen_network.specs.EventEntries.{HasNoEvent}
use Rattle.window_audit.specs.Losses.{AreWithin}
use Rattle.window_audit.proofs.LossLemmas.{IsToldSoFar}
use Rattle.window_audit.proofs.losses.tell.Given as goal

abbrev pub invariant-loop-entry : goal.invariant-loop-entry
invariant-loop-entry l = record {
  bare : HasNoEvent (drop l.entry-index l.entries);
  within : AreWithin l.fn.state.seen_edges.sizes (drop l.entry-index l.entries);
  sizes : l.state.seen_edges.sizes ≡ l.fn.state.seen_edges.sizes;
  comings : l.state.copies.comings ≤ l.fn.state.copies.comings + l.entry-index;
  few : length l.losses.items ≤ length l.fn.losses.items + l.entry-index;
  told : (seen : Seen) → Knows l.fn.state seen → IsToldSoFar seen l.entries (drop l.entry-index l.entries) l.state l.fn.losses.items l.losses.items;
}
