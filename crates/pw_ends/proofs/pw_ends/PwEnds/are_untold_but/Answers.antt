-- Without a mark there is nothing to lose.
use Rattle.std.proofs.Common.{◌≡◌, List, subst}
use Rattle.label_space.specs.declared.kept.Kept.{Kept}
use Rattle.pw_signalling.specs.Rows.{lost}
use Rattle.edge_model.specs.Labels.{keeps_lost}
use Rattle.pw_ends.specs.contracts.pw_ends.PwEnds.{the_view}
use Rattle.pw_ends.specs.Ends.{EndLists, changed_beside, seen_ends}
use Rattle.pw_ends.specs.Marks.{is_marked}
use Rattle.pw_ends.proofs.MarkLemmas.{seen_untold}
use Rattle.pw_ends.proofs.WaitLemmas.{seen_stays}
use Rattle.pw_ends.proofs.pw_ends.PwEnds.are_untold_but.Goals as goal

pub returns : goal.returns
returns c = record {
  untold = λ is peer other.
      subst (λ (l : EndLists). changed_beside peer lost (seen_ends l) ≡ seen_ends l) c.self.view_is
      (seen_untold (is_marked c.self.inside.marks) peer (the_view c.self.inside) c.self.invariant.untold c.self.invariant.kept.count
      (c.is_within.ensures is peer.0 other));
  kept = λ is peer other.
      subst (λ (l : EndLists). (kept : List Kept) → keeps_lost peer (seen_ends l) l.places kept ≡ kept) c.self.view_is
      (seen_stays (is_marked c.self.inside.marks) peer (the_view c.self.inside) c.self.invariant.kept.apart c.self.invariant.untold c.self.invariant.kept.count
      (c.is_within.ensures is peer.0 other));
}
