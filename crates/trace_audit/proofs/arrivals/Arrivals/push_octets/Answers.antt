use Rattle.std.proofs.Common.{List, ℕ, length, subst, sym}
use Rattle.trace_audit.specs.Arrivals.{ArePlacedInside}
use Rattle.trace_audit.proofs.ArrivalLemmas.{octets_placed}
use Rattle.trace_audit.proofs.arrivals.Arrivals.push_octets.Goals as goal

pub invariant_of-self-2 : goal.invariant_of-self-2
invariant_of-self-2 c =
    subst (λ (os : List ℕ). ArePlacedInside c.self.inside.places c.self.inside.firsts.items (length os)) (sym c.in_ok-extend_from_slice.ensures.items)
    (octets_placed c.self.inside.places c.self.inside.firsts.items c.self.inside.octets.items c.args.octets.now c.self.invariant)
