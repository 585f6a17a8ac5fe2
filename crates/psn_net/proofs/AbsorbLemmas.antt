-- The effects of an edge, one after another.
use Rattle.std.proofs.Common.{◌≡◌, ◌++◌, ◌∷◌, ℕ, List, ap, append_assoc, ◌∙◌}
use Rattle.net_base.specs.declared.plan.places.EdgeId.{EdgeId}
use Rattle.net_base.specs.declared.trace.entry.Entry.{Entry}
use Rattle.edge_model.specs.declared.effect.Effect.{Effect}
use Rattle.network_model.specs.Absorb.{absorb_one, all_entries_of, entries_told}
use Rattle.network_model.specs.State.{NetworkState}

pub told_one : (me : EdgeId) (origin hops : ℕ) (effect : Effect) (effects : List Effect) (network : NetworkState) (trace now : List Entry)
    → now ≡ trace ++ entries_told me origin hops effect network
    → now ++ all_entries_of me origin hops effects (absorb_one me origin hops effect network) ≡ trace ++ all_entries_of me origin hops (effect ∷ effects) network
told_one me origin hops effect effects network trace now e =
    ap (λ (t : List Entry). t ++ all_entries_of me origin hops effects (absorb_one me origin hops effect network)) e
    ∙ append_assoc trace (entries_told me origin hops effect network) (all_entries_of me origin hops effects (absorb_one me origin hops effect network))

pub ruleset absorb_steps = (told_one)
