use Rattle.std.proofs.Common.{◌≡◌, ◌≤◌, ◌-◌, ◌++◌, length, drop}
use Rattle.text_pieces.specs.Pieces.{spaced}
use Rattle.message_text.specs.Words.{point_words}
use Rattle.message_text.proofs.pseudowire.put_points.Given as goal

abbrev pub invariant-adding : goal.invariant-adding
invariant-adding l = record {
  within : l.index ≤ length l.points;
  told : l.text.items ++ spaced (point_words (drop l.index l.points)) ≡ l.fn.text.items ++ spaced (point_words l.points);
}

abbrev pub decreases-adding : goal.decreases-adding
decreases-adding l = length l.points - l.index
