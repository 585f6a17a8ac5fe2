use Rattle.std.proofs.Common.{subst}
use Rattle.std.specs.List.Sorted.{IsStrictlySortedBy}
use Rattle.std.specs.Map.{keys_of}
use Rattle.std.specs.Ordering.{nat_cmp}
use Rattle.psn_net.specs.ByNumber.{Numbered}
use Rattle.psn_net.proofs.ByNumberLemmas.{sorted_all}
use Rattle.psn_net.proofs.by_number.ByNumber.len.Goals as goal

pub returns-clause-ordered : goal.returns-clause-ordered
returns-clause-ordered c =
    let row = c.self.inside.row in
    subst (λ (v : Numbered). IsStrictlySortedBy nat_cmp (keys_of v.entries)) c.self.view_is
    (sorted_all row.first c.self.inside.last row.places c.self.inside.rest.entries c.self.invariant.behind c.len.ensures.ordered)
