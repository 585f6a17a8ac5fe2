use Rattle.std.proofs.Common.{◌≤◌, ◌+◌, List, length, subst, sym}
use Rattle.trace_audit.specs.Arrivals.{ArePlacedInside, ArrivalLists}
use Rattle.trace_audit.specs.declared.arrivals.First.{First}
use Rattle.trace_audit.proofs.ArrivalLemmas.{frame_placed}
use Rattle.trace_audit.proofs.arrivals.Arrivals.push_first.Goals as goal

pub invariant_of-self-2 : goal.invariant_of-self-2
invariant_of-self-2 c =
    subst (λ (fs : List First). ArePlacedInside c.self.inside.places fs (length c.self.inside.octets.items)) (sym c.in_ok-push.ensures.items)
    (frame_placed c.self.inside.places c.self.inside.firsts.items c.args.first (length c.self.inside.octets.items)
    (subst (λ (a : ArrivalLists). c.args.first.at + c.args.first.len ≤ length a.octets) (sym c.self.view_is) c.requires) c.self.invariant)
