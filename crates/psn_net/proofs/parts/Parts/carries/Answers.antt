-- The last edge of the wire's path is an edge of the plan.
use Rattle.std.proofs.Common.{◌<◌, ◌∙◌, Option, IfSome, length, ap, subst, sym}
use Rattle.net_base.specs.declared.plan.places.EdgeId.{EdgeId}
use Rattle.net_base.specs.plan.Paths.{last_edge}
use Rattle.psn_net.proofs.CarryingLemmas.{last_of_plan}
use Rattle.psn_net.proofs.parts.Parts.carries.Goals as goal

pub forwards-requires-then-forwards-clause-within : goal.forwards-requires-then-forwards-clause-within
forwards-requires-then-forwards-clause-within c =
    subst (λ (e : Option EdgeId). IfSome e (λ edge. edge.0 < length c.args.self.now.plan.edges)) (sym (c.last_of.ensures ∙ ap last_edge c.as_slice-path.ensures))
    (last_of_plan c.args.self.now.plan c.args.wire.0 c.args.row.now c.requires.checked c.requires.row)
