-- One more switching point is told.
use Rattle.std.proofs.Common.{◌≡◌, ◌+◌, ◌++◌, ◌∙◌, ℕ, List, Some, codes, drop, ap, sym, append_assoc, arith}
use Rattle.std.specs.Prelude.{slice_get}
use Rattle.text_pieces.specs.Pieces.{spaced}
use Rattle.message_text.specs.Words.{point_word, point_words}
use Rattle.message_text.proofs.WordLemmas.{points_from}
use Rattle.message_text.proofs.pseudowire.put_points.Goals as goal

pub adding-preserved : goal.adding-preserved
adding-preserved c =
    let points = c.args.points.now in
    let p = c.unwrap-point.result in
    let before = c.adding.text.items in
    let rest = spaced (point_words (drop (c.adding.index + 1) points)) in
    let is : slice_get points c.adding.index ≡ Some p = sym c.get.ensures ∙ c.unwrap-point.ensures in
    record {
      within = omega (arith, c.adding-test.true, c.len.ensures.count);
      told = (ap (λ (t : List ℕ). t ++ rest) c.in_ok-put_point.ensures ∙ append_assoc before (codes " " ++ point_word p) rest)
          ∙ (ap (λ (back : List ℕ). before ++ back) (sym (points_from points c.adding.index p is)) ∙ c.adding.invariant.told);
    }
