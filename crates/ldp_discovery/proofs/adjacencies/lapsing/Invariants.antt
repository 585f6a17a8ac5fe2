-- Those of the adjacencies so far that end are found.
use Rattle.std.proofs.Common.{◌≡◌, ℕ, false, length, slice_index_or}
use Rattle.ldp_discovery.proofs.LapsedLemmas.{lapsed_below}
use Rattle.ldp_discovery.proofs.adjacencies.lapsing.Given as goal

abbrev pub invariant-loop-place : goal.invariant-loop-place
invariant-loop-place l = record {
  lapsed : (peer : ℕ) → slice_index_or l.ended peer false ≡ lapsed_below l.place l.known peer;
  size : length l.ended ≡ 64;
}
